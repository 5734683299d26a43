use mathlib.Core.Path.{◌≡◌, sym, ◌∙◌}
use Prim.Native.Nat.{◌+◌}
use native.Mathlib.Omega.{arith}
use Rattle.rules.proofs.Limits.{few_buckets}
use Rattle.words.specs.Words.{words}
use Rattle.rules.specs.Limits.{buckets}
use Rattle.layout.specs.Store.{decode}
use Rattle.mend.proofs.Counting.{sum_start, bucket_turn, all_few}
use Rattle.mend.proofs.room.count_all.Goals as goal

pub loop-bucket-init : goal.loop-bucket-init
loop-bucket-init c =
    let t = decode (words c.args.store.now) in
    (sum_start t (t.ids c.args.place) c.args.base, c.requires.1)

pub count_in-count-requires : goal.count_in-count-requires
count_in-count-requires c = (c.requires.0, omega arith, c.loop-bucket.invariant.1)

pub overflow_add-inside : goal.overflow_add-inside
overflow_add-inside c =
    let a = c.args in
    let t = decode (words a.store.now) in
    let sum = bucket_turn t (t.ids a.place) a.base c.loop-bucket.bucket _ _ _ _ c.loop-bucket.invariant.0 c.count_in-count.ensures.0 in
    let few = all_few a.settings a.store.now a.tables.now c.requires.0.known (t.ids a.place) a.base (c.loop-bucket.bucket + 1) _ _ (omega arith) sum in
    omega (arith, few.0, few_buckets a.settings)

pub overflow_add-beyond : goal.overflow_add-beyond
overflow_add-beyond c =
    let a = c.args in
    let t = decode (words a.store.now) in
    let sum = bucket_turn t (t.ids a.place) a.base c.loop-bucket.bucket _ _ _ _ c.loop-bucket.invariant.0 c.count_in-count.ensures.0 in
    let few = all_few a.settings a.store.now a.tables.now c.requires.0.known (t.ids a.place) a.base (c.loop-bucket.bucket + 1) _ _ (omega arith) sum in
    omega (arith, few.1, few_buckets a.settings)

pub loop-bucket-preserved : goal.loop-bucket-preserved
loop-bucket-preserved c =
    let a = c.args in
    let t = decode (words a.store.now) in
    let sum = bucket_turn t (t.ids a.place) a.base c.loop-bucket.bucket _ _ _ _ c.loop-bucket.invariant.0 c.count_in-count.ensures.0 in
    (sum, c.count_in-count.ensures.1)

pub shape_of-flags : goal.shape_of-flags
shape_of-flags c = c.loop-bucket.invariant.1.long ∙ sym c.requires.1.long

pub returns : goal.returns
returns c =
    let e : c.loop-bucket.bucket ≡ buckets c.args.settings = omega arith in
    rw (sym e) c.loop-bucket.invariant.0
