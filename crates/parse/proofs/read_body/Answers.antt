use mathlib.Core.Path.{sym, ap, ◌∙◌}
use native.Mathlib.Omega.{arith}
use lib.ListN.{drop}
use Rattle.hexadecimal.specs.Hex.{spells_bytes}
use Rattle.parse.proofs.Laws.{row_of, from_within, from_past, part_all, body_plain, body_extra, body_loaded, body_spoilt}
use Rattle.parse.proofs.read_body.Goals as goal

-- `parse::read_body` meets its contract.

pub returns-then-is_bytes : goal.returns-then-is_bytes
returns-then-is_bytes c =
    let s = c.args.body.now in
    let S = c.args.size in
    let next = c.in_ok-numbers.numbers.next in
    let row = row_of s _ _ _ c.in_ok-word.ensures c.in_ok-kind.ensures.kind c.shape_of-shape.ensures in
    let yes = ap (spells_bytes S) (sym (part_all s next)) ∙ sym c.is_bytes.ensures ∙ c.if-is_bytes.true in
    record {
      found = body_loaded S s _ _ _ _ row _ _ _ _ c.in_ok-numbers.ensures (drop next s) (from_within s next (omega arith)) c.if-shape.true yes;
      within = omega arith;
      hexadecimal = yes;
    }

pub returns-then-shape : goal.returns-then-shape
returns-then-shape c =
    let s = c.args.body.now in
    let S = c.args.size in
    let next = c.in_ok-numbers.numbers.next in
    let row = row_of s _ _ _ c.in_ok-word.ensures c.in_ok-kind.ensures.kind c.shape_of-shape.ensures in
    let no = ap (spells_bytes S) (sym (part_all s next)) ∙ sym c.is_bytes.ensures ∙ c.if-is_bytes.false in
    body_spoilt S s _ _ _ _ row _ _ _ _ c.in_ok-numbers.ensures (drop next s) (from_within s next (omega arith)) c.if-shape.true no

pub returns-then-body-next-2 : goal.returns-then-body-next-2
returns-then-body-next-2 c =
    let s = c.args.body.now in
    let next = c.in_ok-numbers.numbers.next in
    let row = row_of s _ _ _ c.in_ok-word.ensures c.in_ok-kind.ensures.kind c.shape_of-shape.ensures in
    body_plain c.args.size s _ _ _ _ row _ _ _ _ c.in_ok-numbers.ensures c.if-shape.false (from_past s next (omega arith))

pub returns : goal.returns
returns c =
    let s = c.args.body.now in
    let next = c.in_ok-numbers.numbers.next in
    let row = row_of s _ _ _ c.in_ok-word.ensures c.in_ok-kind.ensures.kind c.shape_of-shape.ensures in
    body_extra c.args.size s _ _ _ _ row _ _ _ _ c.in_ok-numbers.ensures (drop next s) (from_within s next (omega arith)) c.if-shape.false
