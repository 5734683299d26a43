use Rattle.words.specs.Words.{words}
use Rattle.chunk_log.specs.Log.{saved_of, read_log}
use Rattle.sweep.specs.Sweep.{tag_of}
use Rattle.chunk_log.proofs.Steps.{tag_start}
use Rattle.sweep.proofs.Steps.{rank_start, rank_small, rank_turn, rank_sum}
use mathlib.Core.Path.{sym, ◌∙◌}
use native.Mathlib.Omega.{arith}
use native.Mathlib.Numerals.{add-one}
use borrow.Author.Rules.{rules}
use Rattle.sweep.proofs.rank.Goals as goal

pub loop-i-init : goal.loop-i-init
loop-i-init c =
    let rows = read_log c.args.chunks c.args.width (words c.args.log.now) in
    record {
      ranked = sym (rank_start (saved_of rows));
      few = search rules;
      written = tag_start c.args.chunks c.args.width c.args.log.now c.requires.log_with (tag_of rows);
    }

pub overflow_add-s : goal.overflow_add-s
overflow_add-s c =
    let l = c.loop-i in
    let z = rank_small c.args.chunks c.args.width c.args.log.now c.requires.log_with l.i l.m c.read-s.result (words l.log)
    (omega arith) l.invariant.written l.invariant.ranked c.read-s.ensures in
    omega arith

pub overflow_add-m : goal.overflow_add-m
overflow_add-m c =
    let l = c.loop-i in
    let z = rank_small c.args.chunks c.args.width c.args.log.now c.requires.log_with l.i l.m c.read-s.result (words l.log)
    (omega arith) l.invariant.written l.invariant.ranked c.read-s.ensures in
    omega arith

pub loop-i-preserved : goal.loop-i-preserved
loop-i-preserved c =
    let l = c.loop-i in
    let z = rank_small c.args.chunks c.args.width c.args.log.now c.requires.log_with l.i l.m c.read-s.result (words l.log)
    (omega arith) l.invariant.written l.invariant.ranked c.read-s.ensures in
    record {
      ranked = rw (add-one l.i) (rank_sum c.args.chunks c.args.width c.args.log.now c.requires.log_with l.i l.m
          c.read-s.result (words l.log) (omega arith) l.invariant.written l.invariant.ranked c.read-s.ensures);
      few = omega arith;
      written = c.write.ensures ∙ rw (add-one l.i)
          (rank_turn c.args.chunks c.args.width c.args.log.now c.requires.log_with l.i l.m c.read-s.result
          (words l.log) (omega arith) l.invariant.written l.invariant.ranked c.read-s.ensures);
    }
