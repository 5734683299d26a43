use mathlib.Core.Path.{sym}
use Prim.Native.Nat.{ℕ, ◌≤◌, ◌<◌}
use native.Mathlib.Omega.{arith}
use Rattle.rules.proofs.Limits.{few_buckets}
use Rattle.words.specs.Words.{words}
use Rattle.rules.specs.Limits.{buckets}
use Rattle.layout.specs.Store.{decode}
use Rattle.mend.specs.Counts.{InAll}
use Rattle.mend.proofs.Counting.{all_few}
use Rattle.mend.proofs.Parts.{parts_start, part_turn, enough, too_many, rows_left}
use native.Mathlib.Nat.{le_refl}
use Rattle.mend.proofs.room.at_most.Goals as goal
use Rattle.mend.proofs.room.at_most.Goals.{In-loop-count}

-- how large the sums are, and what one part more counts
bounds : (c : In-loop-count) (x y : ℕ) → c.loop-count.count ≤ c.args.room
    → let a = c.args in let t = decode (words a.store.now) in
    InAll t (t.ids a.place) c.loop-count.base (buckets a.settings) x y
    → (c.loop-count.count ≤ 65536) × (c.loop-count.base < 65536) × (x ≤ 65536) × (y ≤ 65536)
bounds c x y l n =
    let a = c.args in
    let t = decode (words a.store.now) in
    let few = all_few a.settings a.store.now a.tables.now c.requires.0.known (t.ids a.place) c.loop-count.base (buckets a.settings) x y (le_refl _) n in
    let b = few_buckets a.settings in
    let k = c.requires.0.there.store.limits.chunks_to in (
      omega (arith, l, c.requires.1, k),
      omega (arith, c.loop-count.invariant.0 l, k),
      omega (arith, few.0, b),
      omega (arith, few.1, b),
    )

pub loop-count-init : goal.loop-count-init
loop-count-init c =
    let a = c.args in
    let t = decode (words a.store.now) in
    (λ _. omega (arith, c.requires.0.there.store.limits.chunks_from), sym (parts_start t (t.ids a.place) (buckets a.settings)))

pub count_part-part-requires : goal.count_part-part-requires
count_part-part-requires c = c.requires.0

pub overflow_add-count : goal.overflow_add-count
overflow_add-count c =
    let b = bounds (goal.at.overflow_add-count c).In-loop-count _ _ (omega arith) c.count_part-part.ensures in omega (arith, b.0, b.2)

pub overflow_add-count-in-loop-count : goal.overflow_add-count-in-loop-count
overflow_add-count-in-loop-count c =
    let b = bounds (goal.at.overflow_add-count-in-loop-count c).In-loop-count _ _ (omega arith) c.count_part-part.ensures in omega (arith, b.0, b.2, b.3)

pub returns-then-count-part : goal.returns-then-count-part
returns-then-count-part c =
    let a = c.args in
    let t = decode (words a.store.now) in
    sym (enough t (t.ids a.place) (buckets a.settings) c.loop-count.base _ _ _ c.loop-count.invariant.1 c.count_part-part.ensures a.room c.if-count-part.true)

pub overflow_add-base : goal.overflow_add-base
overflow_add-base c =
    let b = bounds (goal.at.overflow_add-base c).In-loop-count _ _ (omega arith) c.count_part-part.ensures in omega (arith, b.1)

pub loop-count-smaller : goal.loop-count-smaller
loop-count-smaller c =
    let b = bounds (goal.at.loop-count-smaller c).In-loop-count _ _ (omega arith) c.count_part-part.ensures in omega (arith, b.1)

pub loop-count-preserved : goal.loop-count-preserved
loop-count-preserved c =
    let a = c.args in
    let t = decode (words a.store.now) in (
      λ p. rows_left a.settings a.store.now c.requires.0.there.store (t.ids a.place) c.loop-count.base _ _ _ c.count_part-part.ensures
          (omega (arith, p, c.if-count-part.false)),
      part_turn t (t.ids a.place) (buckets a.settings) c.loop-count.base _ _ _ c.loop-count.invariant.1 c.count_part-part.ensures,
    )

pub returns : goal.returns
returns c =
    let a = c.args in
    let t = decode (words a.store.now) in
    sym (too_many t (t.ids a.place) (buckets a.settings) c.loop-count.base _ a.room c.loop-count.invariant.1 (omega arith))
