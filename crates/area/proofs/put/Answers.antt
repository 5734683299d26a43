use native.Mathlib.Omega.{arith}
use Rattle.area.proofs.Laws.{onto_byte}
use Rattle.area.proofs.put.Goals as goal

-- `area::put` meets its contract.

pub returns : goal.returns
returns c =
    let a = c.args in
    onto_byte a.at a.b a.area.now (omega arith)
