use Rattle.words.specs.Words.{words}
use Rattle.sweep.proofs.Steps.{triple_start, triple_small, triple_turn}
use mathlib.Core.Path.{◌∙◌}
use native.Mathlib.Omega.{arith}
use native.Mathlib.Numerals.{add-one}
use Rattle.sweep.proofs.Marks.{triple_leaves}
use Rattle.sweep.proofs.mark_saved.Goals as goal

pub loop-i-init : goal.loop-i-init
loop-i-init c = triple_start c.args.chunks c.args.width c.args.log.now c.requires

pub overflow_mul-s : goal.overflow_mul-s
overflow_mul-s c =
    let l = c.loop-i in
    let z = triple_small c.args.chunks c.args.width c.args.log.now c.requires l.i c.read-s.result (words l.log) (omega arith)
    l.invariant c.read-s.ensures in
    omega arith

pub loop-i-preserved : goal.loop-i-preserved
loop-i-preserved c =
    let l = c.loop-i in
    c.write.ensures
    ∙ rw (add-one l.i) (triple_turn c.args.chunks c.args.width c.args.log.now c.requires l.i
    c.read-s.result (words l.log) (omega arith) l.invariant c.read-s.ensures)

pub returns : goal.returns
returns c =
    let l = c.loop-i in
    l.invariant ∙ triple_leaves c.args.chunks c.args.width c.args.log.now c.requires l.i (omega arith)
