use mathlib.Core.Path.{◌≡◌, refl, sym, ap, ◌∙◌}
use mathlib.Core.Bool.{Bool}
use Prim.Native.Nat.{ℕ, suc, ◌-◌, ◌<◌}
use native.Mathlib.Omega.{arith}
use Rattle.rules.specs.Numbers.{block_count}
use Rattle.words.specs.Words.{words}
use Rattle.row_checks.specs.Rows.{key_below}
use Rattle.row_checks.proofs.RowLaws.{ceiling_range, rows_under, under_none, under_high, under_bad, under_next, rows_are}
use Rattle.row_checks.proofs.StretchLaws.{stretch_under}
use Rattle.row_checks.proofs.rows.rows_good.Goals as goal

-- what the loop has left to test, with its last row by itself
one_more : (under : ℕ → ℕ → Bool) (all ceiling i : ℕ) → 0 < i → under block_count all ≡ under ceiling i → under block_count all ≡ under ceiling (suc (i - 1))
one_more under all ceiling i h e = let q : i ≡ suc (i - 1) = omega arith in e ∙ ap (under ceiling) q

-- src/rows.rt:145:5

pub returns-then-ceiling-block : goal.returns-then-ceiling-block
returns-then-ceiling-block c =
    let l = c.loop-i in
    let a = c.args in
    let k = key_below a.bounds.now in
    let ws = words a.table.now in
    sym (sym (rows_are a.settings k a.whose ws a.n)
    ∙ one_more (rows_under a.settings k a.whose ws) a.n l.ceiling l.i (omega arith) l.invariant.2
    ∙ under_high a.settings k a.whose ws l.ceiling (l.i - 1) c.read-block.result _ c.read-block.ensures refl c.if-ceiling-block.true)

-- src/rows.rt:153:13

pub returns-then-not-entry_fits : goal.returns-then-not-entry_fits
returns-then-not-entry_fits c =
    let l = c.loop-i in
    let a = c.args in
    let k = key_below a.bounds.now in
    let ws = words a.table.now in
    sym (sym (rows_are a.settings k a.whose ws a.n)
    ∙ one_more (rows_under a.settings k a.whose ws) a.n l.ceiling l.i (omega arith) l.invariant.2
    ∙ under_bad a.settings k a.whose ws l.ceiling (l.i - 1) c.read-block.result c.read-key.result c.read-block.ensures
    c.read-key.ensures (sym c.entry_fits.ensures ∙ c.if-not-entry_fits.true))

-- src/rows.rt:156:13

pub loop-i-preserved : goal.loop-i-preserved
loop-i-preserved c =
    let l = c.loop-i in
    let a = c.args in
    let k = key_below a.bounds.now in
    let ws = words a.table.now in
    let key = c.read-key in
    let fits = sym c.entry_fits.ensures ∙ c.if-not-entry_fits.false in
    let s = c.stretch-reached.ensures in
    let low : c.read-block.result < l.ceiling = c.if-ceiling-block.false in
    let range : c.read-block.result < block_count = omega (arith, low, l.invariant.1) in (
      omega (arith, s.inside, l.invariant.0),
      rw c.ceiling_below-ceiling.ensures (ceiling_range _ 0 a.whose (omega (arith, s.under, range, c.read-block.ensures))),
      one_more (rows_under a.settings k a.whose ws) a.n l.ceiling l.i (omega arith) l.invariant.2
          ∙ under_next a.settings k a.whose ws l.ceiling (l.i - 1) c.read-block.result key.result c.read-block.ensures key.ensures low fits
          ∙ stretch_under a.settings a.bounds.now a.whose ws _ (l.i - 1) _ _ c.read-block.result s c.read-block.ensures refl range key.result fits
          ∙ rw c.ceiling_below-ceiling.ensures,
    )

-- src/rows.rt:139:1

pub returns : goal.returns
returns c =
    let l = c.loop-i in
    let a = c.args in
    let e : l.i ≡ 0 = omega arith in
    sym (sym (rows_are a.settings (key_below a.bounds.now) a.whose (words a.table.now) a.n) ∙ rw e at l.invariant.2
    ∙ under_none a.settings (key_below a.bounds.now) a.whose (words a.table.now) l.ceiling)
