use mathlib.Core.Path.{refl}
use mathlib.Core.List.{[], ◌∷◌}
use Prim.Native.Nat.{◌+◌}
use native.Mathlib.Omega.{arith}
use Rattle.decimal.specs.Decimal.{decimal}
use Rattle.text.specs.Fields.{comma}
use Rattle.area.proofs.Laws.{onto_then}
use Rattle.print.proofs.put_number.Goals as goal

-- `print::put_number` meets its contract.

pub returns : goal.returns
returns c =
    let a = c.args in
    let p = c.put in
    let w = c.write in (
      omega arith,
      onto_then a.at (a.at + 1) (comma ∷ []) (decimal a.number) a.line.now p.new.area w.new.area (omega arith) refl p.ensures
          w.ensures.1,
    )
