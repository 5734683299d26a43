use mathlib.Core.Path.{◌≡◌, sym, ap, ◌∙◌}
use Prim.Native.Nat.{◌+◌}
use native.Mathlib.Omega.{arith}
use Rattle.rules.proofs.Limits.{few_buckets}
use Rattle.words.specs.Words.{words}
use Rattle.rules.specs.Limits.{buckets}
use Rattle.layout.specs.Store.{decode}
use Rattle.mend.specs.Counts.{named_below}
use Rattle.mend.proofs.Counting.{table_fit, names_start, names_more, bucket_count, named_at_most}
use Rattle.mend.proofs.room.named_count.Goals as goal

-- one bucket more
sum : (c : goal.After-count_at-count)
    → c.loop-from.count + c.count_at-count.result ≡ named_below (decode (words c.args.store.now)) (c.loop-from.from-index + 1)
sum c =
    let a = c.args in
    let g = c.loop-from.from-index in
    let n = bucket_count _ _ _ c.requires g (omega arith) _ c.count_at-count.ensures in
    omega (arith, c.loop-from.invariant, names_more (decode (words a.store.now)) g)

pub loop-from-init : goal.loop-from-init
loop-from-init c = sym (names_start (decode (words c.args.store.now)))

pub count_at-count-requires : goal.count_at-count-requires
count_at-count-requires c =
    let a = c.args in
    let g = c.loop-from.from-index in
    table_fit _ _ _ c.requires g (omega arith)

pub overflow_add-count : goal.overflow_add-count
overflow_add-count c =
    let a = c.args in
    omega (
      arith,
      sum c,
      named_at_most a.settings a.store.now a.tables.now c.requires (c.loop-from.from-index + 1) (omega arith),
      few_buckets a.settings,
      c.requires.many,
    )

pub loop-from-preserved : goal.loop-from-preserved
loop-from-preserved c = sum c

pub returns : goal.returns
returns c =
    let e : c.loop-from.from-index ≡ buckets c.args.settings = omega arith in
    c.loop-from.invariant ∙ ap (named_below (decode (words c.args.store.now))) e
