use mathlib.Core.Path.{◌≡◌}
use lib.ListN.{take}
use Rattle.hexadecimal.specs.Hex.{only_digits}
use Rattle.hexadecimal.proofs.all_digits.Given as goal

abbrev pub invariant-loop-b : goal.invariant-loop-b
invariant-loop-b l = l.good ≡ only_digits (take l.b-index l.digits)
