use mathlib.Core.Path.{refl, sym, ◌∙◌}
use Prim.Native.Nat.{◌+◌}
use native.Mathlib.Omega.{arith}
use lib.ListN.{length}
use borrow.Author.Tests.{leb-true}
use Rattle.lists.proofs.Runs.{below_of}
use Rattle.batch.specs.Batch.{block_at}
use Rattle.batch.proofs.Blocks.{block_there, with_there}
use Rattle.batch.proofs.Turns.{other_at, get_nowhere, get_there}
use Rattle.batch.proofs.step_at.Goals as goal

pub overflow_add-end : goal.overflow_add-end
overflow_add-end c =
    omega (arith, leb-true (c.args.at + c.args.settings.size) (length c.args.area.now) (sym c.reaches.ensures ∙ c.if-reaches.true))

pub slice_bounds-fill_block-end : goal.slice_bounds-fill_block-end
slice_bounds-fill_block-end c =
    omega (
      arith,
      leb-true (c.args.at + c.args.settings.size) (length c.args.area.now) (sym c.reaches.ensures
          ∙ c.if-reaches.true),
    )

pub returns-then-reaches : goal.returns-then-reaches
returns-then-reaches c =
    let a = c.args in
    let y = sym c.reaches.ensures ∙ c.if-reaches.true in
    get_there a.settings a.store.now c.requires a.kind a.a a.b a.c a.at (block_at a.settings.size a.at a.«data».now)
    a.area.now
    (below_of 256 _ (λ i. omega (arith, c.slice_known-1.given i))) c.if-kind-eq-GET.true y c.fill_block.result _ _ _
    (block_there a.settings.size a.at a.area.now y _ refl) c.fill_block.ensures (with_there a.settings.size a.at
    a.area.now y _ refl _)

pub returns-then-kind-eq-GET : goal.returns-then-kind-eq-GET
returns-then-kind-eq-GET c =
    let a = c.args in
    get_nowhere a.settings a.store.now c.requires a.kind a.a a.b a.c a.at (block_at a.settings.size a.at a.«data».now)
    a.area.now
    (below_of 256 _ (λ i. omega (arith, c.type_inv.store i))) c.if-kind-eq-GET.true (sym c.reaches.ensures
    ∙ c.if-reaches.false)

pub returns : goal.returns
returns c =
    let a = c.args in
    let r = c.perform in
    other_at a.settings a.store.now c.requires a.kind a.a a.b a.c a.at (block_at a.settings.size a.at a.«data».now)
    a.area.now
    c.if-kind-eq-GET.false r.result _ _ _ r.auto.area c.block_at-bytes.ensures r.ensures
