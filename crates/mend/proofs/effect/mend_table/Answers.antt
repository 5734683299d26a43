use mathlib.Core.Path.{refl, sym, ap, ◌∙◌}
use mathlib.Core.List.{List}
use native.Mathlib.Omega.{arith}
use Rattle.lists.proofs.Runs.{below_of}
use Rattle.words.specs.Words.{words}
use Rattle.rules.specs.Chunks.{Chunk}
use Rattle.mend.specs.Fit.{with_log_at}
use Rattle.mend.proofs.InTurn.{table_inside, rows_start, rows_end, row_mends, rows_turn}
use borrow.Author.Rules.{rules}
use Rattle.mend.proofs.effect.mend_table.Goals as goal

pub read-n-requires : goal.read-n-requires
read-n-requires c =
    let a = c.args in
    let z = table_inside a.settings a.store.now a.place a.from c.requires.0 in
    omega arith

pub loop-i-init : goal.loop-i-init
loop-i-init c =
    let a = c.args in (
      refl,
      c.requires.1,
      rows_start a.settings a.store.now a.place a.from c.requires.0 (below_of 256 a.store.now (λ i. (c.slice_known-1.given i).fits)),
    )

pub overflow_mul-i : goal.overflow_mul-i
overflow_mul-i c =
    let a = c.args in
    let z = table_inside a.settings a.store.now a.place a.from c.requires.0 in
    omega (arith, c.requires.0.few)

pub overflow_add-i : goal.overflow_add-i
overflow_add-i c =
    let a = c.args in
    let z = table_inside a.settings a.store.now a.place a.from c.requires.0 in
    omega (arith, c.requires.0.few)

pub overflow_add-from : goal.overflow_add-from
overflow_add-from c =
    let a = c.args in
    let z = table_inside a.settings a.store.now a.place a.from c.requires.0 in
    omega (arith, c.requires.0.few)

pub read-key-requires : goal.read-key-requires
read-key-requires c =
    let a = c.args in
    let z = table_inside a.settings a.store.now a.place a.from c.requires.0 in
    omega (arith, c.requires.0.few)

pub mend_key-requires : goal.mend_key-requires
mend_key-requires c =
    let a = c.args in (
      row_mends a.settings a.store.now a.place a.from c.requires.0 c.loop-i.i (omega arith) _ c.loop-i.invariant.0 c.loop-i.invariant.2 _
          c.read-key.ensures,
      c.loop-i.invariant.1,
    )

pub loop-i-preserved : goal.loop-i-preserved
loop-i-preserved c =
    let a = c.args in (
      search rules,
      search rules,
      rows_turn a.settings a.store.now a.place a.from c.requires.0 c.loop-i.i (omega arith) _ c.loop-i.invariant.0 c.loop-i.invariant.2 _
          c.read-key.ensures _ c.mend_key.ensures,
    )

pub shape_of-area : goal.shape_of-area
shape_of-area c = c.loop-i.invariant.1 ∙ sym c.requires.1

pub returns : goal.returns
returns c =
    let a = c.args in
    c.loop-i.invariant.2
    ∙ ap (λ (k : List Chunk). with_log_at a.settings a.place k (words a.store.now))
    (rows_end a.settings a.store.now a.place a.from c.requires.0 c.loop-i.i (omega (arith, c.read-n.ensures)))
