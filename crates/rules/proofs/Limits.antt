-- Settings in their limits, as facts.
use mathlib.Core.Path.{◌≡◌, refl}
use mathlib.Core.Bool.{true}
use Prim.Native.Nat.{ℕ, ◌%◌, ◌^◌, ◌≤◌, ◌<◌}
use native.Mathlib.Omega.{arith}
use lib.Dec.{eqb}
use borrow.Author.Tests.{leb-true, eqb-true}
use Rattle.lists.proofs.Tests.{by, and_l, and_r, both}
use Rattle.rules.specs.declared.settings.Settings.{Settings}
use Rattle.rules.specs.declared.refusal.Refusal.TheVariants.{BadSettings}
use Rattle.std.specs.Prelude.{Ok, Err}
use Rattle.rules.specs.Limits.{Limits, in_range, in_limits, checked, buckets, max_buckets}

-- the five tests of question 1
pub record Tests (c : Settings) : Type 0 where
  pub places : in_range 3 8 c.places ≡ true
  pub size : in_range 8 8192 c.size ≡ true
  pub words : eqb (c.size % 8) 0 ≡ true
  pub entries : in_range 2 1024 c.entries ≡ true
  pub chunks : in_range 4 65536 c.chunks ≡ true

pub tests : (c : Settings) → in_limits c ≡ true → Tests c
unfolding in_limits
tests c y = record {
  places = and_l _ _ (and_l _ _ (and_l _ _ (and_l _ _ y)));
  size = and_r _ _ (and_l _ _ (and_l _ _ (and_l _ _ y)));
  words = and_r _ _ (and_l _ _ (and_l _ _ y));
  entries = and_r _ _ (and_l _ _ y);
  chunks = and_r _ _ y;
}

pub all_tests : (c : Settings) → Tests c → in_limits c ≡ true
unfolding in_limits
all_tests c t = both _ _ (both _ _ (both _ _ (both _ _ t.places t.size) t.words) t.entries) t.chunks

range : (low high n : ℕ) → in_range low high n ≡ true → (low ≤ n) × (n ≤ high)
unfolding in_range
range low high n y = (leb-true low n (and_l _ _ y), leb-true n high (and_r _ _ y))

pub limits : (c : Settings) → in_limits c ≡ true → Limits c
limits c y =
    let t = tests c y in
    let places = range 3 8 c.places t.places in
    let size = range 8 8192 c.size t.size in
    let entries = range 2 1024 c.entries t.entries in
    let chunks = range 4 65536 c.chunks t.chunks in
    record {
      places_from = places.0;
      places_to = places.1;
      size_from = size.0;
      size_to = size.1;
      size_words = eqb-true (c.size % 8) 0 t.words;
      entries_from = entries.0;
      entries_to = entries.1;
      chunks_from = chunks.0;
      chunks_to = chunks.1;
    }

-- ---- what the constructor answers
abbrev settings : ℕ → ℕ → ℕ → ℕ → Settings
settings n s m l = record { places = n; size = s; entries = m; chunks = l }

pub good : (n s m l : ℕ) → Tests (settings n s m l) → Ok (settings n s m l) ≡ checked n s m l
unfolding checked
good n s m l t = rw (all_tests (settings n s m l) t)

pub bad : (n s m l : ℕ) → (Tests (settings n s m l) → ⊥) → Err BadSettings ≡ checked n s m l
unfolding checked
bad n s m l h = by (in_limits (settings n s m l)) (λ y. absurd (h (tests (settings n s m l) y))) (λ q. rw q)

-- ---- all that is known of the number of buckets
pub some_buckets : (c : Settings) → 0 < buckets c
unfolding buckets
some_buckets c = omega arith

pub few_buckets : (c : Settings) → buckets c ≤ max_buckets
unfolding buckets
few_buckets c = omega arith

pub power_of_two : (c : Settings) → (k : ℕ) × (buckets c ≡ 2 ^ k)
unfolding buckets
power_of_two c = (4, refl)
