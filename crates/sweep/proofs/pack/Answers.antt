use Rattle.words.specs.Words.{words}
use Rattle.chunk_log.specs.Log.{read_log}
use Rattle.chunk_log.proofs.Steps.{counted}
use Rattle.sweep.proofs.Steps.{zero_kept, pack_low, pack_step, pack_turn}
use Rattle.sweep.proofs.Swept.{pack_start}
use Prim.Native.Nat.{◌+◌, ◌*◌}
use native.Mathlib.Omega.{arith}
use native.Mathlib.Numerals.{add-one}
use Rattle.sweep.proofs.pack.Goals as goal

pub loop-i-init : goal.loop-i-init
loop-i-init c =
    let long = counted c.args.log.now (1 + 3 * c.args.chunks + c.args.chunks * c.args.width) c.requires.1 in
    record {
      next = zero_kept (read_log c.args.chunks c.args.width (words c.args.log.now));
      written = pack_start c.args.chunks c.args.width (words c.args.log.now) long (omega arith);
    }

pub pack_at-o-requires : goal.pack_at-o-requires
pack_at-o-requires c =
    let l = c.loop-i in
    let long = counted c.args.log.now (1 + 3 * c.args.chunks + c.args.chunks * c.args.width) c.requires.1 in
    let z = pack_low c.args.chunks c.args.width (words c.args.log.now) long (omega arith) l.i (omega arith)
    (words l.log) l.o l.invariant.written l.invariant.next in
    (omega arith, omega arith, omega arith)

pub loop-i-preserved : goal.loop-i-preserved
loop-i-preserved c =
    let l = c.loop-i in
    let long = counted c.args.log.now (1 + 3 * c.args.chunks + c.args.chunks * c.args.width) c.requires.1 in
    record {
      next = rw (add-one l.i) (pack_step c.args.chunks c.args.width (words c.args.log.now) long (omega arith) l.i (omega arith)
          (words l.log) l.o l.invariant.written l.invariant.next c.pack_at-o.result c.pack_at-o.ensures.next);
      written = rw (add-one l.i) (pack_turn c.args.chunks c.args.width (words c.args.log.now) long (omega arith) l.i (omega arith)
          (words l.log) l.o l.invariant.written l.invariant.next (words c.pack_at-o.new.log) c.pack_at-o.ensures.words);
    }
