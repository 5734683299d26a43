-- A test asked of every number of a range, as `(0..n).all(..)` and `(0..n).any(..)` ask it.
use Rattle.std.proofs.Common.{◌≡◌, refl, ℕ, zero, suc, ◌+◌, ◌≤◌, ◌<◌, Bool, true, List, [], ◌∷◌, length, get_or, arith, suc-add}
use Rattle.std.specs.List.{list_all, list_any, range_with_len}
use Rattle.lists.specs.Tests.{◌and◌, ◌or◌, all_below, any}
use Rattle.lists.proofs.Tests.{by_eq, and_l, and_r, both, same_test, all_true, all_at}

all_range_at : (a n : ℕ) (test : ℕ → Bool) → list_all test (range_with_len a n) ≡ true → (k : ℕ) → a ≤ k → k < a + n → test k ≡ true
unfolding ◌and◌
all_range_at a zero test y k h l = absurd (omega arith)
all_range_at a (suc n) test y k h l =
    by_eq a k (λ _ e. rw (← e) (and_l _ _ y)) (λ _ e. all_range_at (a + 1) n test (and_r _ _ y) k (omega arith) (omega arith))

all_range_of : (a n : ℕ) (test : ℕ → Bool) → ((k : ℕ) → a ≤ k → k < a + n → test k ≡ true) → list_all test (range_with_len a n) ≡ true
unfolding ◌and◌
all_range_of a zero test f = refl
all_range_of a (suc n) test f =
    both _ _ (f a (omega arith) (omega arith)) (all_range_of (a + 1) n test (λ k h l. f k (omega arith) (omega arith)))

pub all_range : (n : ℕ) (test : ℕ → Bool) → list_all test (range_with_len 0 n) ≡ all_below n test
all_range n test =
    same_test _ _ (λ y. all_true n test (λ k l. all_range_at 0 n test y k (omega arith) (omega arith)))
    (λ y. all_range_of 0 n test (λ k _ l. all_at n test y k (omega arith)))

any_shift : (a n : ℕ) (test : ℕ → Bool) → list_any test (range_with_len (suc a) n) ≡ list_any (λ i. test (suc i)) (range_with_len a n)
any_shift a zero test = refl
any_shift a (suc n) test = rw (suc-add a 1, any_shift (a + 1) n test)

-- by the places of a list's elements
pub any_places : {A : Type 0} (test : A → Bool) (l : List A) (d : A)
    → list_any (λ i. test (get_or l i d)) (range_with_len 0 (length l)) ≡ any test l
unfolding any ◌or◌
any_places test [] d = refl
any_places test (x ∷ l) d = rw (any_shift 0 (length l) (λ i. test (get_or (x ∷ l) i d)), any_places test l d)
