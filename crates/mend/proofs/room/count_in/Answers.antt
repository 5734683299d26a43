use mathlib.Core.Path.{◌≡◌, sym}
use mathlib.Core.List.{List}
use Prim.Native.Nat.{ℕ, ◌+◌, ◌*◌, ◌≤◌, ◌<◌}
use native.Mathlib.Omega.{arith}
use lib.ListN.{length, get_or}
use Rattle.words.specs.Words.{words}
use Rattle.layout.specs.Store.{decode}
use Rattle.named.specs.Tables.{named}
use Rattle.mend.specs.Flags.{Met, Meets}
use Rattle.mend.specs.Keys.{before}
use Rattle.mend.specs.Counts.{InBucket}
use Rattle.mend.proofs.Counting.{table_fit, count_is, no_entries, row_fits, count_start, entry_counted, bucket_done, bucket_few}
use Rattle.mend.proofs.room.count_in.Goals as goal
use Rattle.mend.proofs.room.count_in.Goals.{In-loop-i}

pub returns-in_default : goal.returns-in_default
returns-in_default c =
    let a = c.args in
    let t = decode (words a.store.now) in
    let e = no_entries _ _ _ c.requires.0.known a.bucket c.requires.1 c.in_default.is in (
      rw (sym e) (count_start t (t.ids a.place) a.base a.bucket),
      bucket_done a.settings t (t.ids a.place) a.base a.bucket _ _ e c.requires.2,
    )

pub read-n-requires : goal.read-n-requires
read-n-requires c = let f = table_fit _ _ _ c.requires.0.known c.args.bucket c.requires.1 _ c.in-Some.is in omega (arith, f.inside)

-- the word of an entry lies in the store
fits : (c : In-loop-i) → 8 * (c.in-Some.from + (2 + c.loop-i.i * 2)) + 8 ≤ length c.args.store.now
fits c =
    let k = c.requires.0.known in
    let b = c.args.bucket in
    row_fits _ _ _ k b c.requires.1 _ c.in-Some.is c.loop-i.i (omega (arith, count_is _ _ _ k b c.requires.1 _ c.in-Some.is, c.read-n.ensures))

pub loop-i-init : goal.loop-i-init
loop-i-init c =
    let a = c.args in
    let t = decode (words a.store.now) in
    (count_start t (t.ids a.place) a.base a.bucket, c.requires.2)

pub read-requires : goal.read-requires
read-requires c = omega (arith, fits (goal.at.read-requires c).In-loop-i)

-- one entry more, where its key was read and counted
more : (c : In-loop-i) (key x y : ℕ) (after : List ℕ) → c.loop-i.i < c.read-n.result
    → key ≡ get_or (words c.args.store.now) (c.in-Some.from + (2 + c.loop-i.i * 2)) 0
    → let a = c.args in let t = decode (words a.store.now) in
    Meets a.settings t (t.ids a.place) a.base key c.loop-i.flags after x y
    → InBucket t (t.ids a.place) a.base a.bucket (c.loop-i.i + 1) (c.loop-i.inside + x) (c.loop-i.beyond + y)
    × Met a.settings t (t.ids a.place) a.base (before t a.bucket (c.loop-i.i + 1)) after
more c key x y after l e m =
    let a = c.args in
    entry_counted _ _ _ c.requires.0.known a.bucket c.requires.1 _ c.in-Some.is ((decode (words a.store.now)).ids a.place) a.base c.loop-i.i key
    (omega (arith, l, c.read-n.ensures)) e _ _ _ _ _ _ m c.loop-i.invariant.1 c.loop-i.invariant.0

pub overflow_add-inside : goal.overflow_add-inside
overflow_add-inside c =
    let a = c.args in
    let t = decode (words a.store.now) in
    omega (arith, (bucket_few t (t.ids a.place) a.base a.bucket _ _ _ (more (goal.at.overflow_add-inside c).In-loop-i _ _ _ _ (omega arith) c.read.ensures c.count_key-count.ensures).0).0)

pub overflow_add-beyond : goal.overflow_add-beyond
overflow_add-beyond c =
    let a = c.args in
    let t = decode (words a.store.now) in
    omega (arith, (bucket_few t (t.ids a.place) a.base a.bucket _ _ _ (more (goal.at.overflow_add-beyond c).In-loop-i _ _ _ _ (omega arith) c.read.ensures c.count_key-count.ensures).0).1)

pub loop-i-preserved : goal.loop-i-preserved
loop-i-preserved c = more (goal.at.loop-i-preserved c).In-loop-i _ _ _ _ (omega arith) c.read.ensures c.count_key-count.ensures

pub returns : goal.returns
returns c =
    let a = c.args in
    let t = decode (words a.store.now) in
    let e : c.loop-i.i ≡ length (named t a.bucket) = omega (arith, count_is _ _ _ c.requires.0.known a.bucket c.requires.1 _ c.in-Some.is, c.read-n.ensures) in (
      rw (sym e) c.loop-i.invariant.0,
      bucket_done a.settings t (t.ids a.place) a.base a.bucket _ _ e c.loop-i.invariant.1,
    )
