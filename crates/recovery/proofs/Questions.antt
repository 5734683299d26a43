-- The questions of fetch and ready: what holds where they are answered yes.
use mathlib.Core.Path.{◌≡◌, refl, ap}
use mathlib.Core.List.{List, ◌++◌}
use mathlib.Core.Bool.{true, false}
use Prim.Native.Nat.{ℕ, ◌≤◌, ◌<◌}
use native.Mathlib.Omega.{arith}
use borrow.Author.Tests.{lt-ltb, le-ltb, ltb-true}
use lib.Dec.{ltb}
use Rattle.std.specs.Prelude.{Option, Some, None, is_some, IsSome}
use Rattle.lists.specs.Tests.{◌and◌}
use Rattle.lists.proofs.Tests.{and_l, clash}
use Rattle.words.specs.Words.{words}
use Rattle.rules.specs.declared.settings.Settings.{Settings}
use Rattle.rules.specs.Limits.{buckets}
use Rattle.rules.specs.State.{State}
use Rattle.rules.specs.Derived.{up_member}
use Rattle.rules.specs.Question.{Question, first_no, is_bucket}
use Rattle.rules.specs.Views.{source, fetch_asks, ready_asks}
use Rattle.rules.proofs.Questions.{all_yes, first_more}
use Rattle.layout.specs.Store.{decode}
use Rattle.lent.specs.Stores.{StoreOf}
use Rattle.lent.proofs.Stores.{settings_are, facts}
use Rattle.recovery.specs.Asks.{bucket_asks, UpBucket}
use Rattle.recovery.specs.Fetch.{SourceIs}

module _ (c : Settings) (bs : List ℕ) (v : StoreOf c bs) (g : ℕ) where
  abbrev s : State
  s = decode (words bs)

  count_is : buckets s.settings ≡ buckets c
  count_is = ap buckets (settings_are c bs v)

  pub no_bucket : buckets c ≤ g → is_bucket s g ≡ false
  no_bucket h = le-ltb g (buckets s.settings) (omega (arith, count_is, h))

  pub is_bucket_yes : g < buckets c → is_bucket s g ≡ true
  is_bucket_yes h = lt-ltb g (buckets s.settings) (omega (arith, count_is, h))

  up_bucket : is_bucket s g ≡ true → up_member s (s.bucket g).primary ≡ true → UpBucket c s g
  up_bucket y z = record { inside = omega (arith, count_is, ltb-true g (buckets s.settings) y); primary = z }

  pub bucket_yes : first_no (bucket_asks s g) ≡ 0 → UpBucket c s g
  unfolding ◌and◌
  bucket_yes e = let y = all_yes (bucket_asks s g) refl e in up_bucket y.0 y.1.0

  -- the questions that come after them
  pub bucket_more : first_no (bucket_asks s g) ≡ 0 → (rs : List Question) → first_no (bucket_asks s g ++ rs) ≡ first_no rs
  unfolding ◌and◌
  bucket_more e rs = first_more (bucket_asks s g) rs refl e

  pub fetch_yes : first_no (fetch_asks s g) ≡ 0 → UpBucket c s g × (0 < source s g)
  unfolding ◌and◌
  fetch_yes e = let y = all_yes (fetch_asks s g) refl e in (up_bucket y.0 y.1.0, ltb-true 0 (source s g) y.1.1.1.0)

  pub ready_yes : first_no (ready_asks s g) ≡ 0 → UpBucket c s g × (up_member s (s.bucket g).backup ≡ true)
  unfolding ◌and◌
  ready_yes e = let y = all_yes (ready_asks s g) refl e in (up_bucket y.0 y.1.0, y.1.1.0)

  -- ---- the source as it was found
  pub no_source : (found : Option ℕ) → SourceIs s g found → is_some found ≡ false → ltb 0 (source s g) ≡ false
  no_source None e z = le-ltb 0 (source s g) (omega (arith, e))
  no_source (Some id) e z = clash z refl

  pub some_source : (found : Option ℕ) → SourceIs s g found → is_some found ≡ true → ltb 0 (source s g) ≡ true
  unfolding ◌and◌
  some_source None e z = clash refl z
  some_source (Some id) e z =
      let bricks = (facts c bs v).bricks in
      let some = bricks.first id (bricks.up_present id (and_l _ _ e.1)) in lt-ltb 0 (source s g) (omega (arith, some, e.0))

  pub source_there : (found : Option ℕ) → SourceIs s g found → 0 < source s g → IsSome found
  source_there None e o = absurd (omega (arith, e, o))
  source_there (Some id) e o = search

-- ---- the source of a bucket, by its last ready pair
module _ (s : State) (g : ℕ) where
  pub source_first : up_member s (s.bucket g).last_primary ≡ true → (s.bucket g).last_primary ≡ source s g
  unfolding source
  source_first y = rw y refl

  module _ (n : up_member s (s.bucket g).last_primary ≡ false) where
    pub source_second : up_member s (s.bucket g).last_backup ≡ true → (s.bucket g).last_backup ≡ source s g
    unfolding source
    source_second y = rw (n, y) refl

    pub source_none : up_member s (s.bucket g).last_backup ≡ false → source s g ≡ 0
    unfolding source
    source_none m = rw (n, m) refl
