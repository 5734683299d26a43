use mathlib.Core.Path.{◌≡◌}
use lib.ListN.{length}
use native.Mathlib.Omega.{arith}
use Rattle.parse.proofs.Laws.{end_comma, end_text, word_read}
use Rattle.parse.proofs.first_word.Goals as goal

-- `parse::first_word` meets its contract.

pub returns-then-b-eq44 : goal.returns-then-b-eq44
returns-then-b-eq44 c =
    let s = c.args.body.now in
    let l = c.loop-i in
    word_read s l.i (omega arith) l.packed (λ i _. (c.type_inv.body i).fits) l.invariant.number
    (end_comma s l.i l.invariant.field (omega arith) c.if-b-eq44.true)

pub returns : goal.returns
returns c =
    let s = c.args.body.now in
    let l = c.loop-i in
    let e : l.i ≡ length s = omega arith in
    rw e at
    (word_read s l.i (omega arith) l.packed (λ i _. (c.type_inv.body i).fits) l.invariant.number (end_text s l.i l.invariant.field e))
