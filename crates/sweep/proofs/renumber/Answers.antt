use Rattle.words.specs.Words.{words}
use Rattle.chunk_log.specs.Log.{position_at}
use Rattle.chunk_log.proofs.Steps.{counted}
use Rattle.sweep.proofs.Steps.{zero_picked, renum_start, renum_pos, renum_low, renum_turn, renum_next}
use Prim.Native.Nat.{◌+◌, ◌*◌, ◌<◌}
use native.Mathlib.Omega.{arith}
use native.Mathlib.Numerals.{add-one}
use Rattle.sweep.proofs.renumber.Goals as goal

pub loop-j-init : goal.loop-j-init
loop-j-init c =
    let long = counted c.args.log.now (1 + 3 * c.args.chunks + c.args.chunks * c.args.width) c.requires.n_le_chunks.1 in
    record {
      next = zero_picked c.args.chunks (words c.args.log.now);
      written = renum_start c.args.chunks c.args.width (words c.args.log.now) long;
    }

pub renumber_at-o-requires : goal.renumber_at-o-requires
renumber_at-o-requires c =
    let l = c.loop-j in
    let long = counted c.args.log.now (1 + 3 * c.args.chunks + c.args.chunks * c.args.width) c.requires.n_le_chunks.1 in
    let h : position_at c.args.chunks (words c.args.log.now) l.j < c.args.n = c.requires.by_index l.j (omega arith) in
    let hp : position_at c.args.chunks (words c.args.log.now) l.j < c.args.chunks = omega arith in
    let e = renum_pos c.args.chunks c.args.width (words c.args.log.now) long l.j (omega arith) hp (words l.log)
    l.o l.invariant.written l.invariant.next in
    let z = renum_low c.args.chunks c.args.width (words c.args.log.now) long l.j (omega arith) hp (words l.log)
    l.o l.invariant.written l.invariant.next in
    (omega arith, omega arith, rw e hp, omega arith)

pub loop-j-preserved : goal.loop-j-preserved
loop-j-preserved c =
    let l = c.loop-j in
    let long = counted c.args.log.now (1 + 3 * c.args.chunks + c.args.chunks * c.args.width) c.requires.n_le_chunks.1 in
    let h : position_at c.args.chunks (words c.args.log.now) l.j < c.args.n = c.requires.by_index l.j (omega arith) in
    let hp : position_at c.args.chunks (words c.args.log.now) l.j < c.args.chunks = omega arith in
    record {
      next = rw (add-one l.j) (renum_next c.args.chunks c.args.width (words c.args.log.now) long l.j (omega arith) hp (words l.log)
          l.o l.invariant.written l.invariant.next c.renumber_at-o.result c.renumber_at-o.ensures.next);
      written = rw (add-one l.j) (renum_turn c.args.chunks c.args.width (words c.args.log.now) long l.j (omega arith) hp (words l.log)
          l.o l.invariant.written l.invariant.next (words c.renumber_at-o.new.log) c.renumber_at-o.ensures.words);
    }
