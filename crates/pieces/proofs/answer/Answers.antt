use mathlib.Core.Path.{sym, ◌∙◌}
use mathlib.Core.List.{◌++◌}
use native.Mathlib.Omega.{arith}
use lib.ListN.{take, drop}
use lib.Seq.{take_at, length-take-le}
use Rattle.lists.proofs.Runs.{below_of, below_take}
use Rattle.calls.proofs.Performed.{store_sound}
use Rattle.pieces.proofs.Stages.{answer_taken}
use Rattle.pieces.proofs.answer.Goals as goal

-- `pieces::answer` meets its contract.

pub slice_bounds-answer_line-end-2 : goal.slice_bounds-answer_line-end-2
slice_bounds-answer_line-end-2 c =
    sym (length-take-le c.args.size c.args.room.now (omega (arith, c.requires.0, c.requires.1.0)))

pub answer_line-written-requires : goal.answer_line-written-requires
answer_line-written-requires c =
    (store_sound (take c.args.size c.args.room.now) c.requires.1.1, c.requires.2)

pub returns : goal.returns
returns c =
    let a = c.args in
    let w = c.answer_line-written in
    let part = length-take-le a.size a.room.now (omega (arith, c.requires.0, c.requires.1.0)) in
    let whole = take_at w.new.store (drop a.size a.room.now) a.size (w.auto.store ∙ part) in
    answer_taken a.number a.size a.room.now a.line.now a.out.now w.result w.new.area w.new.store
    (w.new.store ++ drop a.size a.room.now) c.requires.1.0
    (below_take a.size (below_of 256 a.room.now (λ i. omega (arith, c.slice_known-1.given i)))) c.requires.1.1
    whole w.ensures
