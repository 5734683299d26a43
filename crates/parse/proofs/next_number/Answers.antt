use native.Mathlib.Omega.{arith}
use lib.ListN.{drop}
use Rattle.parse.proofs.Laws.{spelling_from, closed_comma}
use Rattle.parse.proofs.next_number.Goals as goal

-- `parse::next_number` meets its contract.

pub loop-i-init : goal.loop-i-init
loop-i-init c = spelling_from (drop c.args.at c.args.body.now) c.args.at

pub closed-requires : goal.closed-requires
closed-requires c =
    let a = c.args in
    let l = c.loop-i in
    closed_comma a.body.now a.at l.i l.number (omega arith) (omega arith) l.invariant (omega arith) c.if-body-i-eq44.true
