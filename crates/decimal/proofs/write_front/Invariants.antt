use mathlib.Core.Path.{◌≡◌}
use mathlib.Core.List.{◌++◌}
use Prim.Native.Nat.{◌+◌, ◌^◌, ◌≤◌, ◌<◌}
use lib.ListN.{length, drop}
use Rattle.decimal.specs.Decimal.{decimal}
use Rattle.decimal.proofs.write_front.Given as goal

abbrev pub invariant-loop-x : goal.invariant-loop-x
invariant-loop-x l =
    (l.x < 2 ^ 64) × (length l.area ≡ length l.initial.area) × (l.i + 1 ≡ length (decimal l.x))
    × (length (decimal l.x) ≤ length l.area) × (decimal l.x ++ drop (l.i + 1) l.area ≡ decimal l.number ++ drop (length (decimal l.number)) l.initial.area)

abbrev pub decreases-loop-x : goal.decreases-loop-x
decreases-loop-x l = l.x
