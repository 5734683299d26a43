-- Laws of chunk logs.
use mathlib.Core.Path.{◌≡◌, refl, sym, ap, ◌∙◌}
use mathlib.Core.List.Memᴰ
use mathlib.Core.List.{List, [], ◌∷◌, map, Memᴰ}
use mathlib.Core.Bool.{Bool, true, false}
use mathlib.Core.Logic.{inl, inr}
use Prim.Native.Nat.{ℕ, suc}
use lib.Dec.{eqb}
use lib.ListN.{length}
use borrow.Author.Tests.{eqb-true}
use Rattle.lists.specs.Tests.{◌or◌, any, only}
use Rattle.lists.proofs.Tests.{by, by_eq, either, eqb_self, impossible, clash, and_l, and_r, both, or_cases, or_l, or_r, or_second, no, is_no}
use Rattle.rules.specs.Chunks.{Chunk, held, saved_in, bytes_in, append, save}
use Rattle.rules.specs.Sound.{keys_apart}

-- a key that is held: its chunk, whose bytes are those that are read
pub held_in : (l : List Chunk) (k : ℕ) → held l k ≡ true → (c : Chunk) × Memᴰ c l × (c.key ≡ k) × (bytes_in l k ≡ c.bytes)
unfolding held any bytes_in
held_in [] k h = impossible h
held_in (x ∷ l) k h =
    by_eq k x.key (λ q r. (x, Memᴰ.head refl, sym r, cc))
    (λ q r. let y = held_in l k (or_second _ _ h q) in (y.0, Memᴰ.tail y.1, y.2, cc (y.3, q)))

pub saved_held : (l : List Chunk) (k : ℕ) → saved_in l k ≡ true → held l k ≡ true
unfolding saved_in held any
saved_held [] k y = y
saved_held (c ∷ l) k y = elim (or_cases _ _ y) [ inl z ↦ or_l _ _ (and_l _ _ z) | inr z ↦ or_r _ _ (saved_held l k z) ]

-- ---- one more chunk
pub held_append : (l : List Chunk) (c : Chunk) (k : ℕ) → held (append l c) k ≡ (held l k or eqb k c.key)
unfolding held any ◌or◌
held_append [] c k = by (eqb k c.key) (λ q. rw q refl) (λ q. rw q refl)
held_append (x ∷ l) c k = by (eqb k x.key) (λ q. rw q refl) (λ q. rw q (held_append l c k))

pub saved_append : (l : List Chunk) (c : Chunk) (k : ℕ) → saved_in l k ≡ true → saved_in (append l c) k ≡ true
unfolding saved_in any
saved_append [] c k y = impossible y
saved_append (x ∷ l) c k y = elim (or_cases _ _ y) [ inl z ↦ or_l _ _ z | inr z ↦ or_r _ _ (saved_append l c k z) ]

pub append_apart : (l : List Chunk) (c : Chunk) → keys_apart l ≡ true → held l c.key ≡ false → keys_apart (append l c) ≡ true
unfolding keys_apart held any
append_apart [] c y n = both true true refl refl
append_apart (x ∷ l) c y n =
    both _ _ (no (held (append l c) x.key) (λ z. elim (or_cases _ _ (sym (held_append l c x.key) ∙ z)) [
      | inl u ↦ is_no (held l x.key) (and_l _ _ y) u
      | inr u ↦ clash n (or_l _ _ (other x.key c.key u))
    ]))
    (append_apart l c (and_r _ _ y) (by (held l c.key) (λ z. clash n (or_r _ _ z)) (λ z. z)))
  where
    other : (a b : ℕ) → eqb a b ≡ true → eqb b a ≡ true
    other a b e = rw (eqb-true a b e) (eqb_self b)

-- ---- saving: each chunk keeps its key and bytes, and stays saved
abbrev pub From : List Chunk → Chunk → Type 0
From l c = (o : Chunk) × Memᴰ o l × (o.key ≡ c.key) × (o.bytes ≡ c.bytes)

module _ (test : ℕ → Bool) where
  pub save_from : (l : List Chunk) {c : Chunk} → Memᴰ c (map (save test) l) → From l c
  save_from [] m = absurd (Memᴰ.not-nil m)
  save_from (x ∷ l) {c} m =
      elim (Memᴰ.cases_cons m) [
        | inl z ↦ (x, Memᴰ.head refl, ap (λ (d : Chunk). d.key) (sym z), ap (λ (d : Chunk). d.bytes) (sym z))
        | inr t ↦ let y = save_from l t in (y.0, Memᴰ.tail y.1, y.2, y.3)
      ]

  pub held_save : (l : List Chunk) (k : ℕ) → held (map (save test) l) k ≡ held l k
  unfolding held any
  held_save [] k = refl
  held_save (c ∷ l) k = rw (held_save l k) refl

  pub apart_save : (l : List Chunk) → keys_apart l ≡ true → keys_apart (map (save test) l) ≡ true
  unfolding keys_apart
  apart_save [] y = y
  apart_save (c ∷ l) y = both _ _ (rw (held_save l c.key) (and_l _ _ y)) (apart_save l (and_r _ _ y))

  pub still_saved : (l : List Chunk) (k : ℕ) → saved_in l k ≡ true → saved_in (map (save test) l) k ≡ true
  unfolding saved_in any
  still_saved [] k y = y
  still_saved (c ∷ l) k y =
      elim (or_cases _ _ y) [ inl z ↦ or_l _ _ (both _ _ (and_l _ _ z) (or_r _ _ (and_r _ _ z))) | inr z ↦ or_r _ _ (still_saved l k z) ]

  pub length_save : (l : List Chunk) → length (map (save test) l) ≡ length l
  length_save [] = refl
  length_save (c ∷ l) = ap suc (length_save l)

-- ---- keeping some
module _ (test : Chunk → Bool) where
  pub held_only : (l : List Chunk) (k : ℕ) → held (only test l) k ≡ true → held l k ≡ true
  unfolding held any only
  held_only [] k = λ y. y
  held_only (c ∷ l) k =
      either (λ (r : List Chunk). held r k ≡ true → (eqb k c.key or held l k) ≡ true) (test c)
      (λ _ y. elim (or_cases (eqb k c.key) (held (only test l) k) y) [ inl z ↦ or_l _ _ z | inr z ↦ or_r _ _ (held_only l k z) ])
      (λ _ y. or_r _ _ (held_only l k y))

  pub apart_only : (l : List Chunk) → keys_apart l ≡ true → keys_apart (only test l) ≡ true
  unfolding keys_apart only
  apart_only [] y = y
  apart_only (c ∷ l) y =
      either (λ (r : List Chunk). keys_apart r ≡ true) (test c)
      (λ _. both _ _ (no _ (λ z. is_no (held l c.key) (and_l _ _ y) (held_only l c.key z))) (apart_only l (and_r _ _ y)))
      (λ _. apart_only l (and_r _ _ y))

  -- a saved chunk that passes stays
  pub saved_only : (l : List Chunk) (k : ℕ) → ((c : Chunk) → c.key ≡ k → c.saved ≡ true → test c ≡ true) → saved_in l k ≡ true
      → saved_in (only test l) k ≡ true
  unfolding saved_in any only
  saved_only [] k f y = y
  saved_only (c ∷ l) k f y =
      elim (or_cases _ _ y) [
        | inl z ↦ rw (f c (sym (eqb-true k c.key (and_l _ _ z))) (and_r _ _ z)) (or_l _ _ z)
        | inr z ↦ either (λ (r : List Chunk). saved_in r k ≡ true) (test c) (λ _. or_r _ _ (saved_only l k f z)) (λ _. saved_only l k f z)
      ]
