-- Format makes a sound store.
use mathlib.Core.Path.{◌≡◌, refl}
use mathlib.Core.List.Memᴰ
use mathlib.Core.Bool.{Bool, true}
use mathlib.Core.Logic.{◌⊎◌, inl, inr}
use Prim.Native.Nat.{ℕ, zero, suc, ◌+◌, ◌*◌, ◌≤◌, ◌<◌}
use native.Mathlib.Omega.{arith}
use lib.ListN.{length-replicate}
use borrow.Author.Tests.{ltb-true, leb-true, lt-ltb, le-leb, le-ltb}
use Rattle.lists.proofs.Tests.{by_lt, and_l, and_r, both}
use Rattle.rules.specs.declared.settings.Settings.{Settings}
use Rattle.rules.specs.Limits.{in_limits, buckets}
use Rattle.rules.specs.Pairs.{id_in}
use Rattle.rules.specs.Format.{first_id, is_first, first_pairs, format}
use Rattle.rules.proofs.Limits.{limits}
use Rattle.rules.proofs.Derived.{in_ids}
use Rattle.rules.proofs.Sound.{PairOk, Sound}
use Rattle.rules.proofs.SoundTest.{table_none, buffer_none, log_none}
use Rattle.pairs.proofs.Members.{two_members, pair_at}
use Rattle.history.proofs.Sound.Groups.{bucket_ok, from_groups}
use Rattle.history.proofs.Sound.Views.{pair_ok}

-- ---- the first places and ids
first_id_is : (n p : ℕ) → ((first_id n p ≡ 0) × (n ≤ p)) ⊎ ((first_id n p ≡ suc p) × (p < n))
unfolding first_id
first_id_is n p = by_lt p n (λ q l. inr (rw q, l)) (λ q l. inl (rw q, l))

first_in : (n i : ℕ) → is_first n i ≡ true → (0 < i) × (i ≤ n)
unfolding is_first
first_in n i y = (ltb-true 0 i (and_l _ _ y), leb-true i n (and_r _ _ y))

pub in_first : (n i : ℕ) → 0 < i → i ≤ n → is_first n i ≡ true
unfolding is_first
in_first n i a b = both _ _ (lt-ltb 0 i a) (le-leb i n b)

first_place : (n i : ℕ) → is_first n i ≡ true → (p : ℕ) × (p < n) × (first_id n p ≡ i)
unfolding first_id
first_place n zero y = absurd (omega (arith, (first_in n 0 y).0))
first_place n (suc p) y = let l = (first_in n (suc p) y).1 in (p, l, rw (lt-ltb p n l) refl)

module _ (c : Settings) (y : in_limits c ≡ true) where
  -- ---- the first pairs
  first_pair : (g : ℕ) → g < buckets c → PairOk c.places (id_in (first_pairs c) (2 * g)) (id_in (first_pairs c) (2 * g + 1))
  unfolding first_pairs
  first_pair g l =
      let n = c.places in
      let most = limits c y in
      let any : ℕ → Bool = λ i. true in
      let one = in_ids n any 1 (omega arith) (omega (arith, most.places_from)) refl in
      let two = in_ids n any 2 (omega arith) (omega (arith, most.places_from)) refl in
      pair_ok (pair_at (buckets c) n any (two_members n any 1 2 one two (λ e. omega arith)) _ (length-replicate (2 * buckets c) 0) g l)

  pub format_sound : Sound (format c)
  unfolding format
  format_sound =
      let n = c.places in
      let most = limits c y in
      from_groups (record {
        limits = y;
        bricks = record {
          few = omega (arith, most.places_to);
          beyond = λ p u. elim (first_id_is n p) [ inl e ↦ e.0 | inr e ↦ absurd (omega (arith, e.1)) ];
          born = λ p. elim (first_id_is n p) [ inl e ↦ omega (arith, e.0) | inr e ↦ omega (arith, e.0, e.1) ];
          apart = λ p q e z. elim (first_id_is n p) [
            | inl u ↦ absurd (omega (arith, u.0))
            | inr u ↦ elim (first_id_is n q) [ inl w ↦ absurd (omega (arith, u.0, w.0, e)) | inr w ↦ omega (arith, u.0, w.0, e) ]
          ];
          stands = λ p z. elim (first_id_is n p) [ inl e ↦ absurd (omega (arith, e.0)) | inr e ↦ rw e.0 (in_first n (suc p) (omega arith) e.1) ];
          somewhere = first_place n;
          first = λ i z. (first_in n i z).0;
          up_present = λ i z. z;
          member_up = λ i z. z;
          began_here = λ i z. z;
        };
        numbers = record { below = λ i. omega arith; most = λ i. omega arith; blank_next = λ i _. refl; blank_ceiling = λ i _. refl };
        view_first = omega arith;
        view_last = omega arith;
        started = omega arith;
        logs = record { each = λ i. log_none; room = λ i. omega arith; blank = λ i _. refl };
        buffers = record { each = λ i. buffer_none; down = λ i _. refl };
        bucket = record {
          each = λ g l. let p = first_pair g l in rw (lt-ltb g (buckets c) l) (bucket_ok p p (omega arith) (omega arith) (record {
            memories = λ i. table_none;
            disks = λ i. table_none;
            blank_memory = λ i _. refl;
            blank_disk = λ i _. refl;
            down = λ i _. refl;
          }));
          none = λ g l. rw (le-ltb g (buckets c) l) refl;
        };
        bag = record { room = omega arith; each = λ r m. absurd (Memᴰ.not-nil m) };
        items = record { each = λ p. table_none; none = λ p _. refl };
        known = record { most = λ p. omega arith; none = λ p _. refl };
      })
