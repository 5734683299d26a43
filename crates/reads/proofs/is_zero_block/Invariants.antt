use mathlib.Core.Path.{◌≡◌}
use mathlib.Core.Bool.{true}
use Prim.Native.Nat.{◌*◌}
use lib.ListN.{take}
use Rattle.reads.proofs.Zeros.{all_zero}
use Rattle.reads.proofs.is_zero_block.Given as goal

abbrev pub invariant-loop-i : goal.invariant-loop-i
invariant-loop-i l = all_zero (take (8 * l.i) l.bytes) ≡ true
