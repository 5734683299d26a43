use mathlib.Core.Path.{refl, ◌∙◌}
use Prim.Native.Nat.{◌+◌, ◌*◌}
use native.Mathlib.Omega.{arith}
use lib.ListN.{length}
use Rattle.words.specs.Words.{words}
use Rattle.words.proofs.Laws.{room}
use Rattle.rules.specs.Limits.{buckets}
use Rattle.buffers.proofs.Drained.{drain_start, still_sorted, drain_turn, drain_end}
use native.Mathlib.Numerals.{add-one}
use Rattle.buffers.proofs.drain.Goals as goal

pub loop-i-init : goal.loop-i-init
loop-i-init c =
    drain_start (buckets c.args.settings) c.args.g c.args.buffer c.args.waiting c.args.copy
    c.args.most (words c.args.s.now) (length c.args.s.now) c.requires
    (room c.args.s.now (c.args.copy + (1 + c.args.most * 2)) c.requires.room)

pub drain_at-requires-clause-sorted : goal.drain_at-requires-clause-sorted
drain_at-requires-clause-sorted c =
    let l = c.loop-i in
    still_sorted (buckets c.args.settings) c.args.g c.args.buffer c.args.waiting c.args.copy
    c.args.most (words c.args.s.now) (length c.args.s.now) c.requires
    (room c.args.s.now (c.args.copy + (1 + c.args.most * 2)) c.requires.room) l.i (words l.s) l.invariant

pub loop-i-preserved : goal.loop-i-preserved
loop-i-preserved c =
    let l = c.loop-i in
    let r = c.drain_at in
    rw (add-one l.i) (drain_turn (buckets c.args.settings) c.args.g c.args.buffer c.args.waiting c.args.copy c.args.most
    (words c.args.s.now) (length c.args.s.now) c.requires (room c.args.s.now (c.args.copy + (1 + c.args.most * 2)) c.requires.room)
    l.i (words l.s) l.invariant (c.args.buffer + (1 + l.i * 2)) refl (omega arith) (words r.new.s) r.ensures)

pub returns : goal.returns
returns c =
    let l = c.loop-i in
    l.invariant ∙ drain_end (buckets c.args.settings) c.args.g c.args.buffer c.args.waiting c.args.copy c.args.most
    (words c.args.s.now) (length c.args.s.now) c.requires (room c.args.s.now (c.args.copy + (1 + c.args.most * 2)) c.requires.room) l.i
    (omega arith)
