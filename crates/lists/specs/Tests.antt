-- Yes and no: the connectives of tests, and a test of every index or every element.
use Rattle.std.specs.Prelude.{List, [], ◌∷◌, Bool, true, false, cond, ◌&&◌, ◌||◌, ℕ, zero, suc, ◌+◌, leb, ltb, eqb}

-- the library's connectives, shut, so that a law finds its arguments in a test
infixl 35 ◌and◌
infixl 30 ◌or◌
unfoldable pub ◌and◌ : Bool → Bool → Bool
a and b = a && b

unfoldable pub ◌or◌ : Bool → Bool → Bool
a or b = a || b

-- a number from one to below another
abbrev pub within : ℕ → ℕ → ℕ → Bool
within from to i = leb from i and ltb i to

-- the test holds of 0, 1, .., n - 1
unfoldable pub all_below : ℕ → (ℕ → Bool) → Bool
all_below zero test = true
all_below (suc n) test = all_below n test and test n

-- the test holds of one of 0, 1, .., n - 1
unfoldable pub any_below : ℕ → (ℕ → Bool) → Bool
any_below zero test = false
any_below (suc n) test = any_below n test or test n

-- how many of 0, 1, .., n - 1 the test holds of
unfoldable pub count_below : ℕ → (ℕ → Bool) → ℕ
count_below zero test = 0
count_below (suc n) test = cond (test n) 1 0 + count_below n test

-- the test holds of every element
unfoldable pub every : {A : Type 0} → (A → Bool) → List A → Bool
every test [] = true
every test (x ∷ l) = test x and every test l

-- the test holds of some element
unfoldable pub any : {A : Type 0} → (A → Bool) → List A → Bool
any test [] = false
any test (x ∷ l) = test x or any test l

-- the same numbers in the same order
unfoldable pub same_numbers : List ℕ → List ℕ → Bool
same_numbers [] [] = true
same_numbers [] (b ∷ m) = false
same_numbers (a ∷ l) [] = false
same_numbers (a ∷ l) (b ∷ m) = eqb a b and same_numbers l m

-- the elements of which the test holds, in their order
unfoldable pub only : {A : Type 0} → (A → Bool) → List A → List A
only test [] = []
only test (x ∷ l) = cond (test x) (x ∷ only test l) (only test l)
