use native.Mathlib.Omega.{arith}
use Rattle.area.proofs.Laws.{onto_part}
use Rattle.decimal.specs.Decimal.{decimal}
use Rattle.decimal.proofs.write.Goals as goal

-- `decimal::write` meets its contract.

pub returns : goal.returns
returns c =
    let a = c.args in
    let w = c.write_front in
    (omega arith, onto_part a.at (decimal a.number) a.area.now w.new.area (omega arith) w.ensures.1)
