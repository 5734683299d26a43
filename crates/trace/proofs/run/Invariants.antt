use mathlib.Core.Path.{◌≡◌}
use Prim.Native.Nat.{◌-◌, ◌^◌}
use lib.ListN.{length}
use Rattle.pieces.specs.Stages.{line_number}
use Rattle.pieces.specs.Takes.{Ready}
use Rattle.trace.specs.Goes.{Few, HasRead}
use Rattle.trace.proofs.run.Given as goal

abbrev pub invariant-loop-turn : goal.invariant-loop-turn
invariant-loop-turn g l =
    Ready l.now l.room l.line × HasRead l.now l.room l.line × (length l.room ≡ length l.initial.room) × (length l.line ≡ length l.initial.line)
    × (length l.input ≡ length l.initial.input) × (length l.out ≡ length l.initial.out) × Few (line_number l.now.stage) (2 ^ 40 - l.turn)
