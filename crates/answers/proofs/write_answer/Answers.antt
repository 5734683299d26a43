use mathlib.Core.Path.{◌∙◌, sym, ap}
use mathlib.Core.List.{List, ◌∷◌, ◌++◌}
use Prim.Native.Nat.{ℕ}
use native.Mathlib.Omega.{arith}
use lib.ListN.{length-append}
use Rattle.area.specs.Area.{onto}
use Rattle.area.proofs.Laws.{onto_then}
use Rattle.decimal.specs.Decimal.{decimal}
use Rattle.decimal.proofs.Laws.{decimal_most}
use Rattle.text.specs.Fields.{comma}
use Rattle.answers.proofs.Laws.{end_text, in_order, line_length}
use Rattle.answers.proofs.write_answer.Goals as goal

-- `answers::write_answer` meets its contract.

pub returns : goal.returns
returns c =
    let a = c.args in
    let d = a.«data».now in
    let l = a.area.now in
    let w = c.write-first in
    let m = c.put_number-second in
    let k = c.put_number-third in
    let e = c.put_end in
    let n1 = decimal a.number in
    let n2 = comma ∷ decimal a.code in
    let n3 = comma ∷ decimal a.key in
    let d1 = decimal_most a.number in
    let d2 = decimal_most a.code in
    let d3 = decimal_most a.key in
    let l2 = length-append n1 n2 in
    let l3 = length-append (n1 ++ n2) n3 in
    let two = onto_then 0 w.result n1 n2 l w.new.area m.new.line (omega (arith, c.requires)) (omega (arith, w.ensures.0)) w.ensures.1
    m.ensures.1 in
    let three = onto_then 0 m.result (n1 ++ n2) n3 l m.new.line k.new.line (omega (arith, c.requires)) (omega (arith, w.ensures.0, m.ensures.0))
    two k.ensures.1 in
    let four = onto_then 0 k.result ((n1 ++ n2) ++ n3) (end_text d) l k.new.line e.new.area (omega (arith, c.requires))
    (omega (arith, w.ensures.0, m.ensures.0, k.ensures.0)) three e.ensures.1 in (
      omega (arith, line_length a.number a.code a.key d, w.ensures.0, m.ensures.0, k.ensures.0, e.ensures.0),
      four ∙ ap (λ (t : List ℕ). onto 0 t l) (sym (in_order a.number a.code a.key d)),
    )
