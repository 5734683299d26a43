use mathlib.Core.Path.{sym, ◌∙◌}
use Rattle.rules.specs.Event.{kind_at}
use Rattle.text.proofs.Laws.{row_payload}
use Rattle.print.proofs.Laws.{loaded_line, plain_line, fronted}
use Rattle.print.proofs.write_line.Goals as goal

-- `print::write_line` meets its contract.

pub returns-then-shape : goal.returns-then-shape
returns-then-shape c =
    let e = c.args.event in
    let d = c.args.«data».now in
    let r = c.shape_of-shape in
    let w = c.put_word-at in
    let n = c.put_numbers-next in
    let f = fronted e.kind e.a e.b e.c d _ _ _ _ _ _ r.ensures c.requires.2 w.ensures.0 w.ensures.1 n.ensures.0 n.ensures.1 (n.auto.line ∙ w.auto.area) in
    let pay = sym (row_payload (kind_at e.kind) r.result r.ensures) ∙ c.if-shape.true in
    loaded_line e.kind e.a e.b e.c d _ _ _ _ _ f _ _ _ pay c.put_data-end.ensures.1 c.put_data-end.ensures.0 c.put.ensures

pub returns : goal.returns
returns c =
    let e = c.args.event in
    let d = c.args.«data».now in
    let r = c.shape_of-shape in
    let w = c.put_word-at in
    let n = c.put_numbers-next in
    let f = fronted e.kind e.a e.b e.c d _ _ _ _ _ _ r.ensures c.requires.2 w.ensures.0 w.ensures.1 n.ensures.0 n.ensures.1 (n.auto.line ∙ w.auto.area) in
    let pay = sym (row_payload (kind_at e.kind) r.result r.ensures) ∙ c.if-shape.false in
    plain_line e.kind e.a e.b e.c d _ _ _ _ _ f _ pay c.put-2.ensures
