-- Laws of the history's writes: the number and the bytes of a key, also with one more write.
use mathlib.Core.Path.{◌≡◌, refl, sym, ◌∙◌}
use mathlib.Core.List.{List, [], ◌∷◌}
use Prim.Native.Nat.{ℕ, suc, ◌≤◌, ◌<◌}
use native.Mathlib.Omega.{arith}
use lib.Dec.{eqb}
use lib.ListN.{length}
use borrow.Author.Tests.{ne_eqb}
use Rattle.lists.specs.Columns.{upd}
use Rattle.lists.proofs.Tests.{by, by_eq, eqb_self}
use Rattle.lists.proofs.Columns.{upd_all}
use Rattle.history.specs.Claim.{Write, number, written}

pub number_most : (l : List Write) (k : ℕ) → number l k ≤ length l
unfolding number
number_most [] k = omega arith
number_most (w ∷ l) k = by (eqb k w.key) (λ q. rw q (omega arith)) (λ q. rw q (omega (arith, number_most l k)))

-- ---- one more write
pub number_new : (l : List Write) (w : Write) → number (w ∷ l) w.key ≡ suc (length l)
unfolding number
number_new l w = cc (eqb_self w.key)

number_old : (l : List Write) (w : Write) (k : ℕ) → (k ≡ w.key → ⊥) → number (w ∷ l) k ≡ number l k
unfolding number
number_old l w k h = cc (ne_eqb k w.key h)

number_grows : (l : List Write) (w : Write) (k : ℕ) → number l k ≤ number (w ∷ l) k
unfolding number
number_grows l w k = by (eqb k w.key) (λ q. rw q (omega (arith, number_most l k))) (λ q. rw q (omega arith))

pub written_new : (l : List Write) (w : Write) → written (w ∷ l) w.key ≡ w.bytes
unfolding written
written_new l w = cc (eqb_self w.key)

written_old : (l : List Write) (w : Write) (k : ℕ) → (k ≡ w.key → ⊥) → written (w ∷ l) k ≡ written l k
unfolding written
written_old l w k h = cc (ne_eqb k w.key h)

-- ---- the writes of every block, with one more of block b
module _ (w : ℕ → List Write) (b : ℕ) (new : Write) where
  abbrev pub one_more_write : ℕ → List Write
  one_more_write = upd w b (new ∷ w b)

  pub number_rises : (c k : ℕ) → number (w c) k ≤ number (one_more_write c) k
  number_rises = upd_all (λ c l. (k : ℕ) → number (w c) k ≤ number l k) w b _ (λ c k. omega arith) (number_grows (w b) new)

  pub length_rises : (c : ℕ) → length (w c) ≤ length (one_more_write c)
  length_rises = upd_all (λ c l. length (w c) ≤ length l) w b _ (λ c. omega arith) (omega arith)

  module _ (k : ℕ) (old : k ≡ new.key → ⊥) where
    pub number_stays : (c : ℕ) → number (one_more_write c) k ≡ number (w c) k
    number_stays = upd_all (λ c l. number l k ≡ number (w c) k) w b _ (λ c. refl) (number_old (w b) new k old)

    pub written_stays : (c : ℕ) → written (one_more_write c) k ≡ written (w c) k
    written_stays = upd_all (λ c l. written l k ≡ written (w c) k) w b _ (λ c. refl) (written_old (w b) new k old)

-- ---- two keys of one number are one
pub one_number : (l : List Write) (a b : ℕ) → number l a ≡ number l b → 0 < number l a → a ≡ b
unfolding number
one_number [] a b = λ e p. absurd (omega arith)
one_number (w ∷ l) a b =
    by_eq a w.key
    (λ q u. by_eq b w.key (λ r v. rw (q, r) (λ _ _. u ∙ sym v)) (λ r v. rw (q, r) (λ e _. absurd (omega (arith, number_most l b, e)))))
    (λ q u. by_eq b w.key (λ r v. rw (q, r) (λ e _. absurd (omega (arith, number_most l a, e)))) (λ r v. rw (q, r) (one_number l a b)))
