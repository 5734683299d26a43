use mathlib.Core.Path.{subst}
use Prim.Native.Nat.{◌+◌, ◌^◌, ◌<◌}
use Rattle.pieces.specs.declared.Stage.{Stage}
use Rattle.pieces.specs.Stages.{StageFits, line_number}
use Rattle.pieces.proofs.Stages.{silent_taken, in_stage}
use Rattle.pieces.proofs.take_line.Goals as goal

-- `pieces::take_line` meets its contract.

pub answer-requires : goal.answer-requires
answer-requires c = (
  c.requires.0,
  subst (λ (x : Stage). StageFits x c.args.room.now) c.in-Running.is c.requires.1,
  c.requires.2,
  subst (λ (x : Stage). line_number x + 1 < 2 ^ 64) c.in-Running.is c.requires.3,
)

pub returns-in-Opening : goal.returns-in-Opening
returns-in-Opening c =
    let a = c.args in
    in_stage a.stage _ a.room.now a.line.now a.out.now _ _ _ c.in-Opening.is
    c.before.before.before.before.before.«open».ensures

pub returns-in-Running : goal.returns-in-Running
returns-in-Running c =
    let a = c.args in
    in_stage a.stage _ a.room.now a.line.now a.out.now _ _ _ c.in-Running.is
    c.answer.ensures

pub returns-in-Stopped : goal.returns-in-Stopped
returns-in-Stopped c =
    let a = c.args in
    in_stage a.stage _ a.room.now a.line.now a.out.now _ _ _ c.in-Stopped.is
    (silent_taken 0 a.line.now a.out.now a.room.now)
