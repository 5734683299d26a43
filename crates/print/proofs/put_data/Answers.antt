use mathlib.Core.Path.{refl}
use mathlib.Core.List.{[], ◌∷◌}
use Prim.Native.Nat.{◌+◌}
use native.Mathlib.Omega.{arith}
use Rattle.hexadecimal.specs.Hex.{hex}
use Rattle.text.specs.Fields.{comma}
use Rattle.area.proofs.Laws.{onto_then}
use Rattle.print.proofs.put_data.Goals as goal

-- `print::put_data` meets its contract.

pub returns : goal.returns
returns c =
    let a = c.args in
    let p = c.put in
    let w = c.encode in (
      omega arith,
      onto_then a.at (a.at + 1) (comma ∷ []) (hex a.«data».now) a.line.now p.new.area w.new.area (omega arith) refl p.ensures
          w.ensures,
    )
