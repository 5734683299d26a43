-- Laws of tests.
use mathlib.Core.Path.{◌≡◌, refl, sym, ap, ◌∙◌}
use mathlib.Core.List.Memᴰ
use mathlib.Core.List.{List, [], ◌∷◌, ◌++◌, Memᴰ}
use mathlib.Core.Bool.{Bool, true, false, not, cond}
use mathlib.Core.Logic.{◌⊎◌, inl, inr}
use Prim.Native.Nat.{ℕ, zero, suc, ◌≤◌, ◌<◌}
use native.Mathlib.Nat.{not-suc-le-zero, le_of_suc-le-suc}
use native.Mathlib.Omega.{arith}
use mir.Val.{bool_byte}
use lib.Dec.{ltb, eqb}
use lib.ListN.{length, get_or}
use borrow.Author.Tests.{eqb-true, eqb-false, eq-eqb, ltb-true, ltb-false}
use Rattle.lists.specs.Tests.{◌and◌, ◌or◌, all_below, any_below, count_below, every, any, same_numbers, only}

-- ---- cases on a test, keeping the equation
pub by {ℓ} : {P : Type ℓ} (b : Bool) → (b ≡ true → P) → (b ≡ false → P) → P
by true t f = t refl
by false t f = f refl

-- the same on two numbers: each side has the test's value and the fact
pub by_eq {ℓ} : {P : Type ℓ} (a b : ℕ) → (eqb a b ≡ true → a ≡ b → P) → (eqb a b ≡ false → (a ≡ b → ⊥) → P) → P
by_eq a b t f = by (eqb a b) (λ q. t q (eqb-true a b q)) (λ q. f q (eqb-false a b q))

pub by_lt {ℓ} : {P : Type ℓ} (a b : ℕ) → (ltb a b ≡ true → a < b → P) → (ltb a b ≡ false → b ≤ a → P) → P
by_lt a b t f = by (ltb a b) (λ q. t q (ltb-true a b q)) (λ q. f q (ltb-false a b q))

-- a choice, with its family written: for a test that names a field of a record that the goal has whole (`rw` would open the record)
pub either {ℓ κ} : {A : Type ℓ} (P : A → Type κ) (b : Bool) {x y : A} → (b ≡ true → P x) → (b ≡ false → P y) → P (cond b x y)
either P true t f = t refl
either P false t f = f refl

pub eqb_self : (a : ℕ) → eqb a a ≡ true
eqb_self a = eq-eqb a a refl

-- a bool as the number that code makes of it
pub flag_word : (b : Bool) → bool_byte b ≡ cond b 1 0
flag_word true = refl
flag_word false = refl

-- ---- what can't be
pub impossible {ℓ} : {A : Type ℓ} → false ≡ true → A
impossible e = let z : ◌≡◌ {A = ℕ} 0 1 = cc in absurd (omega arith)

pub clash {ℓ} : {A : Type ℓ} {b : Bool} → b ≡ false → b ≡ true → A
clash e f = impossible (sym e ∙ f)

pub no : (a : Bool) → (a ≡ true → ⊥) → not a ≡ true
no true f = absurd (f refl)
no false f = refl

pub is_no : (a : Bool) → not a ≡ true → a ≡ true → ⊥
is_no true n y = impossible n
is_no false n y = impossible y

-- ---- and, or
pub and_l : (a b : Bool) → (a and b) ≡ true → a ≡ true
unfolding ◌and◌
and_l true b h = refl
and_l false b h = h

pub and_r : (a b : Bool) → (a and b) ≡ true → b ≡ true
unfolding ◌and◌
and_r true b h = h
and_r false b h = impossible h

pub both : (a b : Bool) → a ≡ true → b ≡ true → (a and b) ≡ true
unfolding ◌and◌
both a b e f = cc

-- where one side is known
pub no_first : (a b : Bool) → a ≡ false → (a and b) ≡ false
unfolding ◌and◌
no_first a b e = rw e

pub no_second : (a b : Bool) → b ≡ false → (a and b) ≡ false
unfolding ◌and◌
no_second true b e = e
no_second false b e = refl

pub yes_first : (a b : Bool) → a ≡ true → (a and b) ≡ b
unfolding ◌and◌
yes_first a b e = rw e

pub yes_second : (a b : Bool) → b ≡ true → (a and b) ≡ a
unfolding ◌and◌
yes_second true b e = e
yes_second false b e = refl

pub or_cases : (a b : Bool) → (a or b) ≡ true → (a ≡ true) ⊎ (b ≡ true)
unfolding ◌or◌
or_cases true b h = inl refl
or_cases false b h = inr h

pub or_l : (a b : Bool) → a ≡ true → (a or b) ≡ true
unfolding ◌or◌
or_l a b e = cc

pub or_r : (a b : Bool) → b ≡ true → (a or b) ≡ true
unfolding ◌or◌
or_r true b e = refl
or_r false b e = e

-- where the first is no, the second decides
pub or_second : (a b : Bool) → (a or b) ≡ true → a ≡ false → b ≡ true
or_second a b h n = elim (or_cases a b h) [ inl y ↦ clash n y | inr y ↦ y ]

pub or_no : (a b : Bool) → a ≡ false → (a or b) ≡ b
unfolding ◌or◌
or_no a b e = rw e

-- an implication, as a test
pub if_so : (a b : Bool) → (not a or b) ≡ true → a ≡ true → b ≡ true
if_so a b h y = or_second (not a) b h (ap not y)

pub so_if : (a b : Bool) → (a ≡ true → b ≡ true) → (not a or b) ≡ true
so_if a b f = by a (λ y. or_r (not a) b (f y)) (λ n. or_l (not a) b (ap not n))

-- two tests that imply each other are one
pub same_test : (a b : Bool) → (a ≡ true → b ≡ true) → (b ≡ true → a ≡ true) → a ≡ b
same_test a b f g = by a (λ y. y ∙ sym (f y)) (λ n. n ∙ sym (by b (λ y. clash n (g y)) (λ z. z)))

-- ---- every index below a bound
pub all_true : (n : ℕ) (test : ℕ → Bool) → ((k : ℕ) → k < n → test k ≡ true) → all_below n test ≡ true
unfolding all_below
all_true zero test h = refl
all_true (suc n) test h = both _ _ (all_true n test (λ k l. h k (omega arith))) (h n (omega arith))

pub all_at : (n : ℕ) (test : ℕ → Bool) → all_below n test ≡ true → (k : ℕ) → k < n → test k ≡ true
unfolding all_below
all_at zero test y k l = absurd (omega arith)
all_at (suc n) test y k l = by_eq k n (λ _ e. rw e (and_r _ _ y)) (λ _ e. all_at n test (and_l _ _ y) k (omega arith))

pub all_false : (n : ℕ) (test : ℕ → Bool) (k : ℕ) → k < n → test k ≡ false → all_below n test ≡ false
all_false n test k l e = by (all_below n test) (λ y. clash e (all_at n test y k l)) (λ z. z)

-- tests that agree below a bound
pub all_same : (n : ℕ) (f g : ℕ → Bool) → ((k : ℕ) → k < n → f k ≡ g k) → all_below n f ≡ all_below n g
unfolding all_below
all_same zero f g e = refl
all_same (suc n) f g e = rw (all_same n f g (λ k h. e k (omega arith)), e n (omega arith))

-- ---- some index below a bound
pub some_at : (n : ℕ) (test : ℕ → Bool) (k : ℕ) → k < n → test k ≡ true → any_below n test ≡ true
unfolding any_below
some_at zero test k l y = absurd (omega arith)
some_at (suc n) test k l y = by_eq k n (λ _ e. or_r _ _ (rw (← e) y)) (λ _ e. or_l _ _ (some_at n test k (omega arith) y))

-- ---- counting below a bound
pub count_at_most : (n : ℕ) (test : ℕ → Bool) → count_below n test ≤ n
unfolding count_below
count_at_most zero test = omega arith
count_at_most (suc n) test = by (test n) (λ q. rw q (omega (arith, count_at_most n test))) (λ q. rw q (omega (arith, count_at_most n test)))

pub count_one : (n : ℕ) (test : ℕ → Bool) → 0 < count_below n test → (i : ℕ) × (i < n) × (test i ≡ true)
unfolding count_below
count_one zero test l = absurd (omega arith)
count_one (suc n) test l =
    by (test n) (λ q. (n, omega arith, q)) (λ q. let z = count_one n test (omega (arith, rw q at l)) in (z.0, omega (arith, z.1), z.2))

-- where there are two, there is one that is not x
pub count_two : (n : ℕ) (test : ℕ → Bool) (x : ℕ) → 1 < count_below n test → (i : ℕ) × (i < n) × (test i ≡ true) × (i ≡ x → ⊥)
unfolding count_below
count_two zero test x l = absurd (omega arith)
count_two (suc n) test x l =
    by (test n)
    (λ q. by_eq n x
    (λ _ e. let z = count_one n test (omega (arith, rw q at l)) in (z.0, omega (arith, z.1), z.2, λ u. omega (arith, z.1)))
    (λ _ e. (n, omega arith, q, e)))
    (λ q. let z = count_two n test x (omega (arith, rw q at l)) in (z.0, omega (arith, z.1), z.2, z.3))

-- ---- every element, some element
pub every_in : {A : Type 0} (test : A → Bool) (l : List A) → every test l ≡ true → (x : A) → Memᴰ x l → test x ≡ true
unfolding every
every_in test [] y x m = absurd (Memᴰ.not-nil m)
every_in test (z ∷ l) y x m = elim (Memᴰ.cases_cons m) [ inl e ↦ rw e (and_l _ _ y) | inr t ↦ every_in test l (and_r _ _ y) x t ]

pub every_of : {A : Type 0} (test : A → Bool) (l : List A) → ((x : A) → Memᴰ x l → test x ≡ true) → every test l ≡ true
unfolding every
every_of test [] f = refl
every_of test (z ∷ l) f = both _ _ (f z (Memᴰ.head refl)) (every_of test l (λ x m. f x (Memᴰ.tail m)))

-- by their places
pub every_by : {A : Type 0} (test : A → Bool) (l : List A) (d : A) → ((i : ℕ) → i < length l → test (get_or l i d) ≡ true) → every test l ≡ true
unfolding every
every_by test [] d f = refl
every_by test (x ∷ l) d f = both _ _ (f 0 (omega arith)) (every_by test l d (λ i h. f (suc i) (omega arith)))

pub every_at : {A : Type 0} (test : A → Bool) (l : List A) (d : A) → every test l ≡ true → (i : ℕ) → i < length l → test (get_or l i d) ≡ true
unfolding every
every_at test [] d y i h = absurd (not-suc-le-zero h)
every_at test (x ∷ l) d y zero h = and_l _ _ y
every_at test (x ∷ l) d y (suc i) h = every_at test l d (and_r _ _ y) i (le_of_suc-le-suc h)

pub some_of : {A : Type 0} (test : A → Bool) (l : List A) (x : A) → Memᴰ x l → test x ≡ true → any test l ≡ true
unfolding any
some_of test [] x m y = absurd (Memᴰ.not-nil m)
some_of test (z ∷ l) x m y = elim (Memᴰ.cases_cons m) [ inl e ↦ or_l _ _ (rw (← e) y) | inr t ↦ or_r _ _ (some_of test l x t y) ]

-- a list with elements has a first
pub an_element : {A : Type 0} (l : List A) → 0 < length l → (x : A) × Memᴰ x l
an_element [] n = absurd (omega arith)
an_element (x ∷ l) n = (x, Memᴰ.head refl)

-- a list with two different elements is longer than one
pub two_elements : {A : Type 0} (l : List A) {x y : A} → Memᴰ x l → Memᴰ y l → (x ≡ y → ⊥) → 1 < length l
two_elements [] m n apart = absurd (Memᴰ.not-nil m)
two_elements (z ∷ []) m n apart = absurd (apart (Memᴰ.eq_of_singleton m ∙ sym (Memᴰ.eq_of_singleton n)))
two_elements (z ∷ (w ∷ l)) m n apart = omega arith

-- what holds of each element, with one more
pub one_more : {A : Type 0} {P : A → Type 0} (l : List A) {x : A} → ((y : A) → Memᴰ y l → P y) → P x → (y : A) → Memᴰ y (l ++ (x ∷ [])) → P y
one_more l h p y m = elim (Memᴰ.append_cases l m) [ inl o ↦ h y o | inr o ↦ rw (Memᴰ.eq_of_singleton o) p ]

-- an element by its index
pub get_or_in : {A : Type 0} (l : List A) (n : ℕ) (d : A) → n < length l → Memᴰ (get_or l n d) l
get_or_in [] n d h = absurd (omega arith)
get_or_in (x ∷ l) zero d h = Memᴰ.head refl
get_or_in (x ∷ l) (suc n) d h = Memᴰ.tail (get_or_in l n d (omega arith))

-- ---- the elements that a test keeps
pub only_in : {A : Type 0} (test : A → Bool) (l : List A) {x : A} → Memᴰ x (only test l) → Memᴰ x l × (test x ≡ true)
unfolding only
only_in test [] m = absurd (Memᴰ.not-nil m)
only_in {A} test (z ∷ l) {x} m =
    either (λ (r : List A). Memᴰ x r → Memᴰ x (z ∷ l) × (test x ≡ true)) (test z)
    (λ q (n : Memᴰ x (z ∷ only test l)). elim (Memᴰ.cases_cons n) [
      | inl e ↦ (Memᴰ.head e, rw e q)
      | inr t ↦ let y = only_in test l t in (Memᴰ.tail y.0, y.1)
    ])
    (λ _ n. let y = only_in test l n in (Memᴰ.tail y.0, y.1)) m

pub in_only : {A : Type 0} (test : A → Bool) (l : List A) {x : A} → Memᴰ x l → test x ≡ true → Memᴰ x (only test l)
unfolding only
in_only test [] m y = m
in_only {A} test (z ∷ l) {x} m y =
    elim (Memᴰ.cases_cons m) [
      | inl e ↦ rw (← e, y) (Memᴰ.head refl)
      | inr t ↦ either (λ (r : List A). Memᴰ x r) (test z) (λ _. Memᴰ.tail (in_only test l t y)) (λ _. in_only test l t y)
    ]

pub length_only : {A : Type 0} (test : A → Bool) (l : List A) → length (only test l) ≤ length l
unfolding only
length_only test [] = omega arith
length_only {A} test (z ∷ l) =
    let u = length_only test l in
    either (λ (r : List A). length r ≤ suc (length l)) (test z) {x = z ∷ only test l} {y = only test l} (λ _. omega arith) (λ _. omega arith)

-- ---- two lists of the same numbers
pub same_numbers_eq : (l m : List ℕ) → same_numbers l m ≡ true → l ≡ m
unfolding same_numbers
same_numbers_eq [] [] y = refl
same_numbers_eq [] (b ∷ m) y = impossible y
same_numbers_eq (a ∷ l) [] y = impossible y
same_numbers_eq (a ∷ l) (b ∷ m) y =
    let e : a ≡ b = eqb-true a b (and_l _ _ y) in
    let r : l ≡ m = same_numbers_eq l m (and_r _ _ y) in
    cc

pub same_numbers_self : (l : List ℕ) → same_numbers l l ≡ true
unfolding same_numbers
same_numbers_self [] = refl
same_numbers_self (a ∷ l) = both _ _ (eqb_self a) (same_numbers_self l)
