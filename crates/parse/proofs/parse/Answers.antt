use mathlib.Core.Path.{sym, ◌∙◌}
use lib.ListN.{length}
use Rattle.parse.specs.Answers.{parsed}
use Rattle.parse.proofs.Laws.{fields_no_line, parsed_none, refused}
use Rattle.parse.proofs.parse.Goals as goal

-- `parse::parse` meets its contract.

pub returns : goal.returns
returns c =
    let a = c.args in
    let l = a.line.now in
    let d = a.«data».now in
    refused (parsed a.size (length d) l) d
    (parsed_none a.size (length d) l (fields_no_line l a.size (sym c.is_line.ensures ∙ c.if-is_line.false)))
