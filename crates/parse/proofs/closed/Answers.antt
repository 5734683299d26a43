use mathlib.Core.Path.{sym, ◌∙◌}
use Prim.Native.Nat.{◌+◌, ◌-◌}
use lib.ListN.{take, drop}
use Rattle.parse.specs.Steps.{fields_from}
use Rattle.parse.proofs.Laws.{first_is, rest_is}
use Rattle.parse.proofs.closed.Goals as goal

-- `parse::closed` meets its contract.

pub returns-in_err-value : goal.returns-in_err-value
returns-in_err-value c =
    let a = c.args in
    let s = a.body.now in
    rw c.from_residual.ensures (first_is (fields_from s a.at) (fields_from s (a.end + 1)) (take (a.end - a.at) (drop a.at s)) c.requires.field ∙ sym c.in_err-value.ensures)

pub returns : goal.returns
returns c =
    let a = c.args in
    let s = a.body.now in
    let text = take (a.end - a.at) (drop a.at s) in
    let f = c.requires.field in
    record {
      number = first_is (fields_from s a.at) (fields_from s (a.end + 1)) text f ∙ sym c.in_ok-value.ensures;
      others = rest_is (fields_from s a.at) (fields_from s (a.end + 1)) text f;
    }
