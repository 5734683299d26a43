use native.Mathlib.Omega.{arith}
use Rattle.parse.proofs.Laws.{three_1, three_2, three_3}
use Rattle.parse.proofs.numbers_from.Goals as goal

-- `parse::numbers_from` meets its contract.

pub returns-then-n-eq1 : goal.returns-then-n-eq1
returns-then-n-eq1 c = three_1 c.args.n _ _ _ c.if-n-eq1.true c.in_ok-first.ensures

pub returns-then-n-eq2 : goal.returns-then-n-eq2
returns-then-n-eq2 c = three_2 c.args.n _ _ _ _ _ c.if-n-eq2.true c.in_ok-first.ensures c.in_ok-second.ensures

pub returns : goal.returns
returns c =
    three_3 c.args.n _ _ _ _ _ _ _ (omega arith) c.in_ok-first.ensures c.in_ok-second.ensures c.in_ok-third.ensures
