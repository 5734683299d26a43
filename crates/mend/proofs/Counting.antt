-- The count of added chunks, read from the store.
use mathlib.Core.Path.{◌≡◌, refl, sym, ap, ◌∙◌}
use mathlib.Core.Bool.{Bool, true, cond}
use mathlib.Core.List.{List}
use Rattle.std.specs.Prelude.{Option, Some, None}
use Prim.Native.Nat.{ℕ, zero, suc, ◌+◌, ◌*◌, ◌/◌, ◌≤◌, ◌<◌}
use native.Mathlib.Numerals.{add-one}
use native.Mathlib.Nat.{le_refl}
use native.Mathlib.Omega.{arith}
use lib.Dec.{leb}
use lib.ListN.{length, get_or}
use borrow.Author.Tests.{leb-true, le-leb}
use Rattle.lists.specs.Tests.{count_below}
use Rattle.lists.proofs.Tests.{same_test, count_at_most}
use Rattle.rules.proofs.Limits.{few_buckets}
use Rattle.words.specs.Words.{words}
use Rattle.words.proofs.Laws.{length_words}
use Rattle.rules.specs.declared.settings.Settings.{Settings}
use Rattle.rules.specs.Limits.{buckets}
use Rattle.rules.specs.Entries.{Entry}
use Rattle.rules.specs.Chunks.{Chunk}
use Rattle.rules.specs.State.{State}
use Rattle.rules.specs.Upkeep.{mend_buckets, mended}
use Rattle.chunk_log.proofs.Codec.{dec_length}
use Rattle.layout.specs.Store.{decode}
use Rattle.lent.specs.Parts.{LogPart}
use Rattle.named.specs.Tables.{CopyAt, EntriesAt, named, AllNamed}
use Rattle.named.proofs.Copies.{inside_store, entries_inside, table_length, table_key}
use Rattle.mend.specs.Keys.{key_at, before, adds, adds_inside, lacks_beyond, counted, added}
use Rattle.mend.proofs.Flagged.{met_by}
use Rattle.mend.proofs.Mending.{before_more, before_bucket, buckets_length}
use Rattle.mend.specs.Flags.{Met, Meets}
use Rattle.mend.specs.Counts.{TableFit, CountAt, InBucket, InAll, named_below}

-- ---- the tables of the buckets
module _ (c : Settings) (bs : List ℕ) (tables : List (Option ℕ)) (o : AllNamed c bs tables) (g : ℕ) (p : g < buckets c)
  where
    abbrev es : List Entry
    es = named (decode (words bs)) g

    lies_at : (from : Option ℕ) → get_or tables g None ≡ from → EntriesAt c (words bs) g es from
    lies_at from e = rw (sym e) (o.lie g p)

    module _ (from : ℕ) (e : get_or tables g None ≡ Some from) where
      a : CopyAt c (words bs) g es from
      a = lies_at (Some from) e

      pub table_fit : TableFit c from (words bs) (length bs)
      table_fit = record { inside = omega (arith, inside_store c g from p a.lies, o.store.size); few = a.table.few }

      pub key_is : (i : ℕ) → i < length es → get_or (words bs) (from + (2 + i * 2)) 0 ≡ key_at (decode (words bs)) g i
      key_is i q = sym (table_key c (words bs) es from a.table (entries_inside c bs o.store g p from a) i q)

      pub count_is : length es ≡ get_or (words bs) from 0
      count_is = table_length c (words bs) es from a.table (entries_inside c bs o.store g p from a)

      pub row_fits : (i : ℕ) → i < length es → 8 * (from + (2 + i * 2)) + 8 ≤ length bs
      row_fits i q = omega (arith, table_fit.inside, table_fit.few, count_is)

    pub no_entries : get_or tables g None ≡ None → 0 ≡ length es
    no_entries e = let l : EntriesAt c (words bs) g es None = lies_at None e in sym (ap length l)

    few_in : (from : Option ℕ) → get_or tables g None ≡ from → length es ≤ c.entries
    few_in (Some from) e = omega (arith, count_is from e, (table_fit from e).few)
    few_in None e = omega (arith, no_entries e)

    pub named_few : length es ≤ c.entries
    named_few = few_in (get_or tables g None) refl

    counted_at : (from : Option ℕ) → get_or tables g None ≡ from → (r : ℕ) → CountAt from (words bs) r → r ≡ length es
    counted_at (Some from) e r h = h ∙ sym (count_is from e)
    counted_at None e r h = h ∙ no_entries e

    pub bucket_count : (r : ℕ) → CountAt (get_or tables g None) (words bs) r → r ≡ length es
    bucket_count = counted_at (get_or tables g None) refl

-- ---- the sums
count_next : (n : ℕ) (test : ℕ → Bool) → count_below (n + 1) test ≡ cond (test n) 1 0 + count_below n test
count_next n test = ap (λ (k : ℕ). count_below k test) (add-one n) ∙ (unfold count_below in refl)

pub count_start : (s : State) (id base g : ℕ) → InBucket s id base g 0 0 0
unfolding count_below
count_start s id base g = record { here = refl; far = refl }

-- one entry more: what it counts, and the flags after it
pub entry_turn : (c : Settings) (s : State) (id base g i key : ℕ) (flags after : List ℕ) (inside beyond x y : ℕ) → i < length (named s g)
    → key ≡ key_at s g i → Meets c s id base key flags after x y → Met c s id base (before s g i) flags → InBucket s id base g i inside beyond
    → InBucket s id base g (i + 1) (inside + x) (beyond + y) × Met c s id base (before s g (i + 1)) after
entry_turn c s id base g i key flags after inside beyond x y p e h m n =
    let new : x ≡ cond (adds_inside s id base g i) 1 0 = unfold adds_inside adds in rw (sym e) (h.new (before s g i) m) in
    let far : y ≡ cond (lacks_beyond s id base g i) 1 0 = unfold lacks_beyond in rw (sym e) h.far in (
      record {
        here = omega (arith, n.here, count_next i (adds_inside s id base g));
        far = omega (arith, n.far, count_next i (lacks_beyond s id base g));
      },
      met_by c s id base _ _ after (λ k. rw e (sym (before_more s g i k p)) ∙ ap (λ (n : ℕ). before s g n k) (sym (add-one i))) (h.met (before s g i) m),
    )

pub bucket_done : (c : Settings) (s : State) (id base g n : ℕ) (flags : List ℕ) → n ≡ length (named s g) → Met c s id base (before s g n) flags
    → Met c s id base (before s (g + 1) 0) flags
bucket_done c s id base g n flags e m =
    met_by c s id base _ _ flags (λ k. ap (λ (i : ℕ). before s g i k) e ∙ sym (before_bucket s g k) ∙ ap (λ (h : ℕ). before s h 0 k) (sym (add-one g))) m

pub bucket_few : (s : State) (id base g i inside beyond : ℕ) → InBucket s id base g i inside beyond → (inside ≤ i) × (beyond ≤ i)
bucket_few s id base g i inside beyond n =
    (omega (arith, n.here, count_at_most i (adds_inside s id base g)), omega (arith, n.far, count_at_most i (lacks_beyond s id base g)))

-- the same of an entry whose key was read where its bucket's table lies
pub entry_counted : (c : Settings) (bs : List ℕ) (tables : List (Option ℕ)) (h : AllNamed c bs tables) (g : ℕ) (p : g < buckets c) (from : ℕ)
    → get_or tables g None ≡ Some from → (id base i key : ℕ) → i < get_or (words bs) from 0 → key ≡ get_or (words bs) (from + (2 + i * 2)) 0
    → (flags after : List ℕ) (inside beyond x y : ℕ)
    → Meets c (decode (words bs)) id base key flags after x y → Met c (decode (words bs)) id base (before (decode (words bs)) g i) flags
    → InBucket (decode (words bs)) id base g i inside beyond
    → InBucket (decode (words bs)) id base g (i + 1) (inside + x) (beyond + y) × Met c (decode (words bs)) id base (before (decode (words bs)) g (i + 1)) after
entry_counted c bs tables h g p from o id base i key l e flags after inside beyond x y m met sums =
    let q : i < length (named (decode (words bs)) g) = omega (arith, count_is c bs tables h g p from o) in
    entry_turn c (decode (words bs)) id base g i key flags after inside beyond x y q (e ∙ key_is c bs tables h g p from o i q) m met sums

-- a log has as many chunks as its count says
pub log_count : (c : Settings) (part : List ℕ) (l : List Chunk) → LogPart c l part → (n : ℕ) → n ≡ get_or (words part) 0 0 → n ≡ length l
log_count c part l h n e =
    e ∙ sym (dec_length c.chunks (c.size / 8) (words part) (length_words part ∙ omega (arith, h.log.size))) ∙ ap length h.same

pub sum_start : (s : State) (id base : ℕ) → InAll s id base 0 0 0
unfolding counted
sum_start s id base = record { here = refl; far = refl }

sum_more : (s : State) (test : ℕ → ℕ → Bool) (g : ℕ) → counted s test (g + 1) ≡ count_below (length (named s g)) (test g) + counted s test g
sum_more s test g = ap (counted s test) (add-one g) ∙ (unfold counted in refl)

pub bucket_turn : (s : State) (id base g inside beyond x y : ℕ) → InAll s id base g inside beyond → InBucket s id base g (length (named s g)) x y
    → InAll s id base (g + 1) (inside + x) (beyond + y)
bucket_turn s id base g inside beyond x y n h = record {
  here = omega (arith, n.here, h.here, sum_more s (adds_inside s id base) g);
  far = omega (arith, n.far, h.far, sum_more s (lacks_beyond s id base) g);
}

-- ---- all named entries
pub names_start : (s : State) → named_below s 0 ≡ 0
unfolding named_below
names_start s = refl

pub names_more : (s : State) (g : ℕ) → named_below s (g + 1) ≡ length (named s g) + named_below s g
names_more s g = ap (named_below s) (add-one g) ∙ (unfold named_below in refl)

-- so few that no sum of them overflows
pub named_at_most : (c : Settings) (bs : List ℕ) (tables : List (Option ℕ)) → AllNamed c bs tables → (n : ℕ) → n ≤ buckets c → named_below (decode (words bs)) n ≤ n * 1024
unfolding named_below
named_at_most c bs tables k zero p = omega arith
named_at_most c bs tables k (suc n) p =
    let few = named_few c bs tables k n (omega arith) in
    omega (arith, named_at_most c bs tables k n (omega arith), k.store.limits.entries_to)

counted_few : (s : State) (test : ℕ → ℕ → Bool) (n : ℕ) → counted s test n ≤ named_below s n
unfolding counted named_below
counted_few s test zero = omega arith
counted_few s test (suc n) = omega (arith, counted_few s test n, count_at_most (length (named s n)) (test n))

pub all_few : (c : Settings) (bs : List ℕ) (tables : List (Option ℕ)) → AllNamed c bs tables → (id base n inside beyond : ℕ) → n ≤ buckets c
    → InAll (decode (words bs)) id base n inside beyond → (inside ≤ n * 1024) × (beyond ≤ n * 1024)
all_few c bs tables k id base n inside beyond p h =
    let s = decode (words bs) in
    let few = named_at_most c bs tables k n p in
    (omega (arith, h.here, counted_few s (adds_inside s id base) n), omega (arith, h.far, counted_few s (lacks_beyond s id base) n))

-- in all
pub named_small : (c : Settings) (bs : List ℕ) (tables : List (Option ℕ)) → AllNamed c bs tables → named_below (decode (words bs)) (buckets c) ≤ 65536
named_small c bs tables k = omega (arith, named_at_most c bs tables k (buckets c) (le_refl _), few_buckets c)

pub added_small : (c : Settings) (bs : List ℕ) (tables : List (Option ℕ)) → AllNamed c bs tables → (id : ℕ) → added (decode (words bs)) id (buckets c) ≤ 65536
added_small c bs tables k id = omega (arith, counted_few (decode (words bs)) (adds (decode (words bs)) id) (buckets c), named_small c bs tables k)

-- ---- the answer
module _ (c : Settings) (s : State) (id held room : ℕ) (e : s.settings ≡ c) (n : held ≡ length (s.bricks.log id)) (w : held + room ≡ c.chunks) where
  long : length (mended s id) ≡ held + added s id (buckets c)
  long =
      ap (λ (x : Settings). length (mend_buckets s id (buckets x))) e ∙ omega (arith, buckets_length s id (buckets c))

  pub room_is : leb (added s id (buckets c)) room ≡ leb (length (mended s id)) c.chunks
  room_is =
      same_test _ _ (λ y. le-leb (length (mended s id)) c.chunks (omega (arith, long, w, leb-true (added s id (buckets c)) room y)))
      (λ y. le-leb (added s id (buckets c)) room (omega (arith, long, w, leb-true (length (mended s id)) c.chunks y)))

  pub room_enough : named_below s (buckets c) ≤ room → leb (length (mended s id)) c.chunks ≡ true
  room_enough h = le-leb (length (mended s id)) c.chunks (omega (arith, long, w, h, counted_few s (adds s id) (buckets c)))
