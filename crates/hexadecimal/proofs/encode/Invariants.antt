use mathlib.Core.Path.{◌≡◌}
use lib.ListN.{take}
use Rattle.area.specs.Area.{onto}
use Rattle.hexadecimal.specs.Hex.{hex}
use Rattle.hexadecimal.proofs.encode.Given as goal

abbrev pub invariant-loop-i : goal.invariant-loop-i
invariant-loop-i l = l.area ≡ onto l.at (hex (take l.i l.bytes)) l.initial.area
