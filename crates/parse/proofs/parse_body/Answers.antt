use lib.ListN.{length}
use Rattle.text.specs.Fields.{fields}
use Rattle.text.specs.Lines.{fields_of_texts}
use Rattle.parse.specs.Answers.{with_room}
use Rattle.parse.specs.Steps.{FoundAt}
use Rattle.parse.proofs.Laws.{refused, room_none, room_wrong}
use Rattle.parse.proofs.parse_body.Goals as goal

-- `parse::parse_body` meets its contract.

pub returns-in_err-reading : goal.returns-in_err-reading
returns-in_err-reading c =
    let a = c.args in
    let d = a.«data».now in
    let o = fields_of_texts a.size (fields a.body.now) in
    rw c.from_residual.ensures (refused (with_room a.size (length d) o) d (room_none a.size (length d) o c.in_err-reading.ensures))

pub returns-then-data-size : goal.returns-then-data-size
returns-then-data-size c =
    let a = c.args in
    let d = a.«data».now in
    let o = fields_of_texts a.size (fields a.body.now) in
    let loaded : FoundAt a.size a.body.now c.in_ok-reading.reading.event c.in-Some.from = rw c.in-Some.is at c.in_ok-reading.ensures in
    refused (with_room a.size (length d) o) d (room_wrong a.size (length d) o loaded.found.payload c.if-data-size.true)
