-- The rules' chunk lists by index: what the chunk found at an index says of the list, and a change of one chunk.
use mathlib.Core.Path.{◌≡◌, refl, sym, ap, ◌∙◌}
use mathlib.Core.Logic.{◌≢◌, inl, inr}
use mathlib.Core.Bool.{Bool, true, false}
use mathlib.Core.List.{List, [], ◌∷◌}
use Prim.Native.Nat.{ℕ, zero, suc, ◌<◌, suc-le-suc}
use native.Mathlib.Nat.{not-suc-le-zero, le_of_suc-le-suc}
use native.Mathlib.Omega.{arith}
use lib.Dec.{eqb}
use lib.ListN.{length, set}
use borrow.Author.Tests.{eq-eqb, ne_eqb, eqb-true}
use Rattle.lists.specs.Tests.{◌and◌, ◌or◌, any}
use Rattle.lists.proofs.Lists.{same_cons}
use Rattle.lists.proofs.Tests.{by, impossible, no, is_no, and_l, and_r, both, or_l, or_r, or_cases}
use Rattle.rules.specs.Chunks.{Chunk, new_chunk, held, saved_in, bytes_in, save, save_key}
use Rattle.rules.specs.Sound.{keys_apart}
use Rattle.chunk_log.specs.Log.{chunk_at}

-- ---- held, by places
pub held_at : (cs : List Chunk) (k i : ℕ) → i < length cs → (chunk_at cs i).key ≡ k → held cs k ≡ true
unfolding held any
held_at [] k i h e = absurd (not-suc-le-zero h)
held_at (c ∷ cs) k zero h e = or_l _ _ (eq-eqb k c.key (sym e))
held_at (c ∷ cs) k (suc i) h e = or_r _ _ (held_at cs k i (le_of_suc-le-suc h) e)

at_held : (cs : List Chunk) (k : ℕ) → held cs k ≡ true → (i : ℕ) × (i < length cs) × ((chunk_at cs i).key ≡ k)
unfolding held any
at_held [] k h = impossible h
at_held (c ∷ cs) k h = elim (or_cases _ _ h) [
  | inl q ↦ (0, omega arith, sym (eqb-true k c.key q))
  | inr q ↦ let r = at_held cs k q in (suc r.0, suc-le-suc r.1, r.2)
]

pub not_held : (cs : List Chunk) (k : ℕ) → ((i : ℕ) → i < length cs → (chunk_at cs i).key ≢ k) → held cs k ≡ false
not_held cs k f = by (held cs k) (λ y. let r = at_held cs k y in absurd (f r.0 r.1 r.2)) (λ n. n)

-- ---- no key twice, by places
pub apart_at : (cs : List Chunk) → keys_apart cs ≡ true → (i j : ℕ) → i < j → j < length cs → (chunk_at cs i).key ≢ (chunk_at cs j).key
unfolding keys_apart
apart_at [] a i j p q = absurd (not-suc-le-zero q)
apart_at (c ∷ cs) a i zero p q = absurd (not-suc-le-zero p)
apart_at (c ∷ cs) a zero (suc j) p q = λ e. is_no _ (and_l _ _ a) (held_at cs c.key j (le_of_suc-le-suc q) (sym e))
apart_at (c ∷ cs) a (suc i) (suc j) p q = apart_at cs (and_r _ _ a) i j (le_of_suc-le-suc p) (le_of_suc-le-suc q)

pub apart_of : (cs : List Chunk) → ((i j : ℕ) → i < j → j < length cs → (chunk_at cs i).key ≢ (chunk_at cs j).key) → keys_apart cs ≡ true
unfolding keys_apart
apart_of [] d = refl
apart_of (c ∷ cs) d =
    both _ _ (no _ (λ h. let r = at_held cs c.key h in d 0 (suc r.0) (omega arith) (suc-le-suc r.1) (sym r.2)))
    (apart_of cs (λ i j p q. d (suc i) (suc j) (suc-le-suc p) (suc-le-suc q)))

first_apart : (c : Chunk) (cs : List Chunk) → keys_apart (c ∷ cs) ≡ true → held cs c.key ≡ false
unfolding keys_apart
first_apart c cs a = by (held cs c.key) (λ y. absurd (is_no (held cs c.key) (and_l _ _ a) y)) (λ n. n)

rest_apart : (c : Chunk) (cs : List Chunk) → keys_apart (c ∷ cs) ≡ true → keys_apart cs ≡ true
unfolding keys_apart
rest_apart c cs a = and_r _ _ a

-- ---- a key that none has is saved nowhere, and saving it changes nothing
pub none_saved : (cs : List Chunk) (k : ℕ) → held cs k ≡ false → saved_in cs k ≡ false
unfolding held saved_in any ◌or◌ ◌and◌
none_saved [] k h = refl
none_saved (c ∷ cs) k h = by (eqb k c.key) (λ q. impossible (sym (rw q at h))) (λ q. rw q (none_saved cs k (rw q at h)))

pub none_to_save : (cs : List Chunk) (k : ℕ) → held cs k ≡ false → save_key cs k ≡ cs
unfolding held save_key any ◌or◌
none_to_save [] k h = refl
none_to_save (c ∷ cs) k h =
    by (eqb k c.key) (λ q. impossible (sym (rw q at h))) (λ q. rw q (ap (λ (l : List Chunk). c ∷ l) (none_to_save cs k (rw q at h))))

-- ---- what the chunk found at an index says
one_flag : (t s r : Bool) → t ≡ true → r ≡ false → (t and s) or r ≡ s
unfolding ◌and◌ ◌or◌
one_flag t s r e f = rw (e, f) (by s (λ q. rw q) (λ q. rw q))

no_flag : (t s r : Bool) → t ≡ false → (t and s) or r ≡ r
unfolding ◌and◌ ◌or◌
no_flag t s r e = rw e

module _ (k : ℕ) where
  other : (c : Chunk) (cs : List Chunk) (p : ℕ) → keys_apart (c ∷ cs) ≡ true → p < length cs → (chunk_at cs p).key ≡ k → eqb k c.key ≡ false
  other c cs p a h e = ne_eqb k c.key (λ q. apart_at (c ∷ cs) a 0 (suc p) (omega arith) (suc-le-suc h) (sym q ∙ sym e))

  pub found_saved : (cs : List Chunk) (p : ℕ) → keys_apart cs ≡ true → p < length cs → (chunk_at cs p).key ≡ k → saved_in cs k ≡ (chunk_at cs p).saved
  unfolding saved_in any
  found_saved [] p a h e = absurd (not-suc-le-zero h)
  found_saved (c ∷ cs) zero a h e =
      one_flag (eqb k c.key) c.saved (saved_in cs k) (eq-eqb k c.key (sym e)) (none_saved cs k (rw e at (first_apart c cs a)))
  found_saved (c ∷ cs) (suc p) a h e =
      no_flag (eqb k c.key) c.saved (saved_in cs k) (other c cs p a (le_of_suc-le-suc h) e)
      ∙ found_saved cs p (rest_apart c cs a) (le_of_suc-le-suc h) e

  pub found_bytes : (cs : List Chunk) (p : ℕ) → keys_apart cs ≡ true → p < length cs → (chunk_at cs p).key ≡ k → bytes_in cs k ≡ (chunk_at cs p).bytes
  unfolding bytes_in
  found_bytes [] p a h e = absurd (not-suc-le-zero h)
  found_bytes (c ∷ cs) zero a h e = rw (eq-eqb k c.key (sym e))
  found_bytes (c ∷ cs) (suc p) a h e =
      rw (other c cs p a (le_of_suc-le-suc h) e) (found_bytes cs p (rest_apart c cs a) (le_of_suc-le-suc h) e)

  pub found_save : (cs : List Chunk) (p : ℕ) → keys_apart cs ≡ true → p < length cs → (chunk_at cs p).key ≡ k
      → save_key cs k ≡ set cs p (save (λ _. true) (chunk_at cs p))
  unfolding save_key ◌or◌
  found_save [] p a h e = absurd (not-suc-le-zero h)
  found_save (c ∷ cs) zero a h e =
      same_cons (ap (λ (t : Bool). new_chunk c.key (t or c.saved) c.bytes) (eq-eqb k c.key (sym e))) (none_to_save cs k (rw e at (first_apart c cs a)))
  found_save (c ∷ cs) (suc p) a h e =
      rw (other c cs p a (le_of_suc-le-suc h) e) (ap (λ (l : List Chunk). c ∷ l) (found_save cs p (rest_apart c cs a) (le_of_suc-le-suc h) e))
