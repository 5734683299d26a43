use mathlib.Core.Path.{◌≡◌}
use Prim.Native.Nat.{◌+◌, ◌^◌, ◌<◌}
use lib.ListN.{length}
use Rattle.decimal.specs.Decimal.{decimal}
use Rattle.decimal.proofs.width.Given as goal

abbrev pub invariant-loop-x : goal.invariant-loop-x
invariant-loop-x l = (l.x < 2 ^ 64) × (l.n + length (decimal l.x) ≡ length (decimal l.number))

abbrev pub decreases-loop-x : goal.decreases-loop-x
decreases-loop-x l = l.x
