use mathlib.Core.Path.{◌≡◌}
use Prim.Native.Nat.{◌-◌}
use lib.ListN.{length}
use Rattle.trace.proofs.Goes.{Going}
use Rattle.trace.proofs.take_all.Given as goal

abbrev pub invariant-loop-read : goal.invariant-loop-read
invariant-loop-read g l =
    Going l.initial.now l.initial.room l.initial.line l.input l.room l.line l.now l.read × (length l.room ≡ length l.initial.room)
    × (length l.line ≡ length l.initial.line) × (length l.out ≡ length l.initial.out)

abbrev pub decreases-loop-read : goal.decreases-loop-read
decreases-loop-read g l = length l.input - l.read
