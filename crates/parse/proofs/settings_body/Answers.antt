use mathlib.Core.Path.{refl}
use native.Mathlib.Omega.{arith}
use Rattle.text.specs.Fields.{fields}
use Rattle.text.specs.Lines.{settings_of_fields}
use Rattle.parse.proofs.Laws.{three_3, wrong_3, answer_none, others_wrong, settings_found, settings_more}
use Rattle.parse.proofs.settings_body.Goals as goal

-- `parse::settings_body` meets its contract.

pub returns-in_err-chunks : goal.returns-in_err-chunks
returns-in_err-chunks c =
    let s = c.args.body.now in
    rw c.from_residual-in_err-chunks.ensures
    (answer_none (settings_of_fields (fields s))
    (others_wrong s _ _ c.in_ok-places.ensures
    (wrong_3 3 _ _ _ _ _ (omega arith) c.in_ok-size.ensures c.in_ok-entries.ensures c.in_err-chunks.ensures)))

pub returns-then-chunks-body : goal.returns-then-chunks-body
returns-then-chunks-body c =
    let s = c.args.body.now in
    answer_none (settings_of_fields (fields s))
    (settings_more s _ _ c.in_ok-places.ensures _ _ _ _
    (three_3 3 _ _ _ _ _ _ _ refl c.in_ok-size.ensures c.in_ok-entries.ensures c.in_ok-chunks.ensures) (omega arith))

pub returns : goal.returns
returns c =
    settings_found c.args.body.now _ _ c.in_ok-places.ensures _ _ _ _
    (three_3 3 _ _ _ _ _ _ _ refl c.in_ok-size.ensures c.in_ok-entries.ensures c.in_ok-chunks.ensures) (omega arith)
