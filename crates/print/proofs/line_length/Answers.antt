use mathlib.Core.Bool.{false≢true, true, false}
use mathlib.Core.Path.{◌≡◌, sym, ap, ◌∙◌}
use native.Mathlib.Omega.{arith}
use Rattle.std.specs.Prelude.{Some}
use Rattle.rules.specs.Event.{kind_at, fields_brought}
use Rattle.print.proofs.Laws.{unformed, formed, loaded_size, loaded_length, plain_length, below_all, known}
use Rattle.print.proofs.line_length.Goals as goal

-- `print::line_length` meets its contract.

pub returns-then-data-size : goal.returns-then-data-size
returns-then-data-size c =
    let e = c.args.event in
    let d = c.args.«data».now in
    let q = known e.kind e.a e.b e.c _ _ (omega arith) (omega arith) c.shape_of-shape.ensures c.numbers_length.ensures.0 c.numbers_length.ensures.1 in
    let pay : (kind_at e.kind).payload ≡ true = sym q.payload ∙ c.if-shape.true in
    sym (unformed c.args.size (fields_brought e.kind e.a e.b e.c d) (λ w. c.if-data-size.true (loaded_size c.args.size e.kind e.a e.b e.c d pay w)))

pub returns-then-size : goal.returns-then-size
returns-then-size c =
    let e = c.args.event in
    let d = c.args.«data».now in
    let q = known e.kind e.a e.b e.c _ _ (omega arith) (omega arith) c.shape_of-shape.ensures c.numbers_length.ensures.0 c.numbers_length.ensures.1 in
    let len = loaded_length e.kind e.a e.b e.c d (sym q.payload ∙ c.if-shape.true) in
    sym (unformed c.args.size (fields_brought e.kind e.a e.b e.c d) (λ w. omega (arith, w.short)))

pub returns-then-loaded-gt-LONGEST : goal.returns-then-loaded-gt-LONGEST
returns-then-loaded-gt-LONGEST c =
    let e = c.args.event in
    let d = c.args.«data».now in
    let q = known e.kind e.a e.b e.c _ _ (omega arith) (omega arith) c.shape_of-shape.ensures c.numbers_length.ensures.0 c.numbers_length.ensures.1 in
    let len = loaded_length e.kind e.a e.b e.c d (sym q.payload ∙ c.if-shape.true) in
    sym (unformed c.args.size (fields_brought e.kind e.a e.b e.c d) (λ w. omega (arith, w.short)))

pub returns-then-shape : goal.returns-then-shape
returns-then-shape c =
    let e = c.args.event in
    let d = c.args.«data».now in
    let q = known e.kind e.a e.b e.c _ _ (omega arith) (omega arith) c.shape_of-shape.ensures c.numbers_length.ensures.0 c.numbers_length.ensures.1 in
    let len = loaded_length e.kind e.a e.b e.c d (sym q.payload ∙ c.if-shape.true) in
    let fits = c.ranges in
    let small = below_all 256 d (λ i. omega (arith, c.type_inv.data i)) in
    rw (formed c.args.size e.kind e.a e.b e.c d q.least q.most (omega arith) (omega arith) (omega arith) small (λ p. c.if-data-size.false) (omega arith))
    (ap Some (omega arith))

pub returns : goal.returns
returns c =
    let e = c.args.event in
    let d = c.args.«data».now in
    let q = known e.kind e.a e.b e.c _ _ (omega arith) (omega arith) c.shape_of-shape.ensures c.numbers_length.ensures.0 c.numbers_length.ensures.1 in
    let pay : (kind_at e.kind).payload ≡ false = sym q.payload ∙ c.if-shape.false in
    let len = plain_length e.kind e.a e.b e.c d pay in
    let fits = c.ranges in
    let small = below_all 256 d (λ i. omega (arith, c.type_inv.data i)) in
    rw (formed c.args.size e.kind e.a e.b e.c d q.least q.most (omega arith) (omega arith) (omega arith) small (λ p. absurd (false≢true (sym pay ∙ p))) (omega arith))
    (ap Some (omega arith))
