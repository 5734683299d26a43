-- Laws of a function that ascends strictly below a bound, as binary search and a check of neighbours use them.
use Prim.Native.Nat.{ℕ, zero, suc, ◌+◌, ◌-◌, ◌≤◌, ◌<◌}
use native.Mathlib.Nat.{le_of_lt, lt_trans, lt_of_le_of_lt, not-suc-le-zero}
use native.Mathlib.Numerals.{add-one}
use native.Mathlib.Omega.{arith}
use Rattle.lists.proofs.Tests.{by_eq}

-- the two halves that a probe at mid leaves
module _ (f : ℕ → ℕ) (n x mid : ℕ) (rising : (i j : ℕ) → i < j → j < n → f i < f j) (hm : mid < n) where
  pub lower : f mid < x → (j : ℕ) → j < mid + 1 → f j < x
  lower h j p = by_eq j mid (λ _ q. rw q h) (λ _ q. lt_trans (rising j mid (omega arith) hm) h)

  pub upper : x ≤ f mid → (j : ℕ) → mid ≤ j → j < n → x ≤ f j
  upper h j p l = by_eq j mid (λ _ q. rw q h) (λ _ q. le_of_lt (lt_of_le_of_lt h (rising mid j (omega arith) l)))

-- from each to the next is from each to every later one
pub rising_from : (f : ℕ → ℕ) (n : ℕ) → ((i : ℕ) → i < n - 1 → f i < f (i + 1)) → (i j : ℕ) → i < j → j < n → f i < f j
rising_from f n h i zero p q = absurd (not-suc-le-zero p)
rising_from f n h i (suc j) p q =
    let step : f j < f (suc j) = rw add-one at (h j (omega arith)) in
    by_eq i j (λ _ e. rw e step) (λ _ e. lt_trans (rising_from f n h i j (omega arith) (omega arith)) step)
