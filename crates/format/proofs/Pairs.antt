-- The pairs that format makes, and the buckets and bricks of its state.
use mathlib.Core.Path.{◌≡◌, refl, sym, ap, ◌∙◌, fun_ext}
use mathlib.Core.List.{List, [], ◌∷◌}
use mathlib.Core.Bool.{Bool, true}
use Prim.Native.Nat.{ℕ, zero, suc, ◌+◌, ◌*◌, ◌-◌, ◌≤◌, ◌<◌}
use native.Mathlib.Numerals.{add-one}
use native.Mathlib.Omega.{arith}
use lib.Dec.{ltb}
use lib.ListN.{length, take, replicate, length-take, length-replicate, replicate-append-replicate}
use lib.Seq.{take_at}
use borrow.Author.Tests.{lt-ltb, le-leb}
use Rattle.lists.proofs.Tests.{by, both}
use Rattle.rules.specs.declared.settings.Settings.{Settings}
use Rattle.rules.specs.Limits.{buckets, max_buckets, max_places, max_id}
use Rattle.rules.specs.Pairs.{Assignments, ids_of, pairs}
use Rattle.rules.specs.Format.{first_id, is_first, first_pairs, format}
use Rattle.rules.specs.Limits.{Limits}
use Rattle.rules.proofs.Limits.{few_buckets}
use Rattle.pairs.proofs.Facts.{pairs_length}
use Rattle.codec.specs.Codec.{◌&◌}
use Rattle.layout.specs.Contents.{Copies, Brick, blank_copies}
use Rattle.layout.specs.Store.{brick_in, contents_of}
use Rattle.format.specs.First.{agreed_in, first_brick, first_place}

-- the ids of the bricks, as the code has them
abbrev all_ids : List ℕ
all_ids = 1 ∷ 2 ∷ 3 ∷ 4 ∷ 5 ∷ 6 ∷ 7 ∷ 8 ∷ []

pub ids_few : (n : ℕ) → length (take n all_ids) ≤ max_id
ids_few n = omega (arith, length-take n all_ids)

first_ids : (n : ℕ) → n ≤ max_places → take n all_ids ≡ ids_of n (λ i. true)
unfolding ids_of
first_ids zero h = refl
first_ids (suc zero) h = refl
first_ids (suc (suc zero)) h = refl
first_ids (suc (suc (suc zero))) h = refl
first_ids (suc (suc (suc (suc zero)))) h = refl
first_ids (suc (suc (suc (suc (suc zero))))) h = refl
first_ids (suc (suc (suc (suc (suc (suc zero)))))) h = refl
first_ids (suc (suc (suc (suc (suc (suc (suc zero))))))) h = refl
first_ids (suc (suc (suc (suc (suc (suc (suc (suc zero)))))))) h = refl
first_ids (suc (suc (suc (suc (suc (suc (suc (suc (suc n))))))))) h = absurd (omega arith)

-- no bucket had a pair before
pub no_pairs : (c : Settings) (n : ℕ) → n ≡ buckets c → take {A = ℕ} (2 * n - 0) (replicate (2 * max_buckets) 0) ≡ replicate (2 * buckets c) 0
no_pairs c n e =
    let k : ℕ = 2 * buckets c in
    let rest : ℕ = 2 * max_buckets - k in
    let used : 2 * n - 0 ≡ k = omega arith in
    let all : k + rest ≡ 2 * max_buckets = omega (arith, few_buckets c) in
    let split = replicate-append-replicate {A = ℕ} k rest 0 ∙ ap (λ (m : ℕ). replicate {A = ℕ} m 0) all in
    rw used (ap (λ (l : List ℕ). take k l) (sym split) ∙ take_at (replicate k 0) (replicate rest 0) k (length-replicate k 0))

pub first_pairs_are : (c : Settings) → Limits c → (n : ℕ) → n ≡ buckets c → (last assigned : Assignments) → last ≡ replicate (2 * buckets c) 0
    → assigned ≡ pairs n (take c.places all_ids) last → assigned ≡ first_pairs c
unfolding first_pairs
first_pairs_are c l n en last assigned el e = e ∙ rw (en, el, first_ids c.places l.places_to)

pub first_pairs_long : (c : Settings) → length (first_pairs c) ≡ 2 * buckets c
unfolding first_pairs
first_pairs_long c = pairs_length _ _ _ ∙ length-replicate _ 0

-- ---- in the state that format makes
pub format_agreed : (c : Settings) (g : ℕ) → g < buckets c → (contents_of (format c)).agreed g ≡ agreed_in (first_pairs c) g
unfolding format
format_agreed c g h = rw (lt-ltb g (buckets c) h)

module _ (c : Settings) where
  copies_none : (i g : ℕ) → (brick_in (format c) i).copies g ≡ blank_copies
  unfolding format
  copies_none i g = by (ltb g (buckets c)) (λ q. rw q) (λ q. rw q)

  first_here : (p : ℕ) → p < c.places → is_first c.places (suc p) ≡ true
  unfolding is_first
  first_here p h = both _ _ (lt-ltb 0 (suc p) (omega arith)) (le-leb (suc p) c.places h)

  id_is : (p : ℕ) → p < c.places → first_id c.places p ≡ p + 1
  unfolding first_id
  id_is p h = rw (lt-ltb p c.places h) (sym (add-one p))

  brick_is : (i : ℕ) → is_first c.places i ≡ true → brick_in (format c) i ≡ first_brick
  unfolding format
  brick_is i y = made y (fun_ext (copies_none i))
    where
      made : {f : Bool} {copies : ℕ → Copies} → f ≡ true → copies ≡ (λ g. blank_copies)
          → ◌≡◌ {A = Brick}
          (record { present = f; status = record { up = f; member = f; began = f; next = 0; ceiling = 0 }; buffer = []; copies = copies; log = [] }) first_brick
      made e k = cc

  pub format_place : (p : ℕ) → p < c.places → (contents_of (format c)).place p ≡ first_place p
  unfolding format
  format_place p h =
      ap (λ (i : ℕ). i & brick_in (format c) i) (id_is p h)
      ∙ ap (λ (b : Brick). p + 1 & b) (brick_is (p + 1) (rw (add-one p) (first_here p h)))
