use mathlib.Core.Path.{◌≡◌}
use lib.ListN.{take}
use Rattle.hexadecimal.specs.Hex.{unhex}
use Rattle.hexadecimal.proofs.decode.Given as goal

abbrev pub invariant-loop-i : goal.invariant-loop-i
invariant-loop-i l = take l.i l.area ≡ take l.i (unhex l.digits)
