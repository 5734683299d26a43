use mathlib.Core.Path.{refl, sym, ◌∙◌}
use native.Mathlib.Omega.{arith}
use Rattle.lists.proofs.Runs.{below_of}
use Rattle.mend.proofs.AllBuckets.{buckets_start, buckets_end, bucket_mends, buckets_turn}
use borrow.Author.Rules.{rules}
use Rattle.mend.proofs.effect.mend_all.Goals as goal

pub loop-from-init : goal.loop-from-init
loop-from-init c =
    let a = c.args in (
      refl,
      c.requires.1,
      buckets_start a.settings a.store.now a.place a.tables.now c.requires.0 (below_of 256 a.store.now (λ i. (c.type_inv.store i).fits)),
    )

pub mend_named-requires : goal.mend_named-requires
mend_named-requires c =
    let a = c.args in (
      bucket_mends a.settings a.store.now a.place a.tables.now c.requires.0 c.loop-from.from-index (omega arith) _ c.loop-from.invariant.0 c.loop-from.invariant.2,
      c.loop-from.invariant.1,
    )

pub loop-from-preserved : goal.loop-from-preserved
loop-from-preserved c =
    let a = c.args in (
      search rules,
      search rules,
      buckets_turn a.settings a.store.now a.place a.tables.now c.requires.0 c.loop-from.from-index (omega arith) _ c.loop-from.invariant.0 c.loop-from.invariant.2 _
          c.mend_named.ensures,
    )

pub shape_of-area : goal.shape_of-area
shape_of-area c = c.loop-from.invariant.1 ∙ sym c.requires.1

pub returns : goal.returns
returns c =
    let a = c.args in
    buckets_end a.settings a.store.now a.place a.tables.now c.requires.0 c.loop-from.from-index _ (omega arith) c.loop-from.invariant.2
