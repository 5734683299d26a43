-- The number of the first question that is answered no, found question by question or group by group.
use mathlib.Core.Path.{◌≡◌, refl, sym, ◌∙◌}
use mathlib.Core.List.{List, [], ◌∷◌, ◌++◌}
use mathlib.Core.Bool.{Bool, true, false}
use Prim.Native.Nat.{ℕ}
use native.Mathlib.Omega.{arith}
use lib.Dec.{leb}
use borrow.Author.Tests.{leb-true}
use Rattle.lists.specs.Tests.{◌and◌}
use Rattle.lists.proofs.Tests.{by, by_eq, and_l, and_r}
use Rattle.rules.specs.Question.{Question, ◌asks◌, first_no, AllYes}

-- ---- a yes goes on to the next question, a no is the answer
pub first_yes : (code : ℕ) {b : Bool} (qs : List Question) → b ≡ true → first_no ((code asks b) ∷ qs) ≡ first_no qs
unfolding first_no
first_yes code qs y = rw y

pub first_stop : (code : ℕ) {b : Bool} (qs : List Question) → b ≡ false → first_no ((code asks b) ∷ qs) ≡ code
unfolding first_no
first_stop code qs n = rw n

-- questions that come first, and a no of the same number; or questions that end alike
pub first_same : (code : ℕ) (b : Bool) (qs : List Question) → first_no qs ≡ code → first_no ((code asks b) ∷ qs) ≡ code
first_same code b qs e = by b (λ y. first_yes code qs y ∙ e) (λ n. first_stop code qs n)

pub first_past : (code : ℕ) (b : Bool) (qs rs : List Question) → first_no qs ≡ first_no rs → first_no ((code asks b) ∷ qs) ≡ first_no ((code asks b) ∷ rs)
first_past code b qs rs e =
    by b (λ y. first_yes code qs y ∙ e ∙ sym (first_yes code rs y)) (λ n. first_stop code qs n ∙ sym (first_stop code rs n))

pub none_asked : first_no [] ≡ 0
unfolding first_no
none_asked = refl

-- ---- the questions of events have numbers from 3 on that fit a byte, so where none is answered no, all are answered yes
abbrev pub max_code : ℕ
max_code = 255

abbrev pub is_number : ℕ → Bool
is_number code = leb 3 code and leb code max_code

abbrev pub numbered : List Question → Bool
numbered [] = true
numbered (q ∷ qs) = is_number q.code and numbered qs

no_stop : {A : Type 0} (q : Question) (qs : List Question) → numbered (q ∷ qs) ≡ true → first_no (q ∷ qs) ≡ 0 → q.yes ≡ false → A
no_stop q qs k e n = absurd (omega (arith, leb-true 3 q.code (and_l _ _ (and_l _ _ k)), sym (first_stop q.code qs n) ∙ e))

pub all_yes : (qs : List Question) → numbered qs ≡ true → first_no qs ≡ 0 → AllYes qs
all_yes [] k e = tt
all_yes (q ∷ qs) k e = by q.yes (λ y. (y, all_yes qs (and_r _ _ k) (sym (first_yes q.code qs y) ∙ e))) (no_stop q qs k e)

pub none_no : (qs : List Question) → AllYes qs → first_no qs ≡ 0
none_no [] y = none_asked
none_no (q ∷ qs) y = first_yes q.code qs y.0 ∙ none_no qs y.1

-- ---- questions in two groups
pub first_more : (qs rs : List Question) → numbered qs ≡ true → first_no qs ≡ 0 → first_no (qs ++ rs) ≡ first_no rs
first_more [] rs k e = refl
first_more (q ∷ qs) rs k e =
    by q.yes (λ y. first_yes q.code (qs ++ rs) y ∙ first_more qs rs (and_r _ _ k) (sym (first_yes q.code qs y) ∙ e)) (no_stop q qs k e)

pub first_enough : (qs rs : List Question) → (first_no qs ≡ 0 → ⊥) → first_no (qs ++ rs) ≡ first_no qs
first_enough [] rs k = absurd (k none_asked)
first_enough (q ∷ qs) rs k =
    by q.yes
    (λ y. first_yes q.code (qs ++ rs) y ∙ first_enough qs rs (λ z. k (first_yes q.code qs y ∙ z)) ∙ sym (first_yes q.code qs y))
    (λ n. first_stop q.code (qs ++ rs) n ∙ sym (first_stop q.code qs n))

-- as the code goes through them: the first group's number is the answer, or the second group's
pub stops_there : (qs rs : List Question) {n : ℕ} → n ≡ first_no qs → (n ≡ 0 → ⊥) → n ≡ first_no (qs ++ rs)
stops_there qs rs e k = e ∙ sym (first_enough qs rs (λ z. k (e ∙ z)))

pub goes_on : (qs rs : List Question) {n m : ℕ} → numbered qs ≡ true → n ≡ first_no qs → n ≡ 0 → m ≡ first_no rs → m ≡ first_no (qs ++ rs)
goes_on qs rs k e z r = r ∙ sym (first_more qs rs k (sym e ∙ z))

-- where a list of questions has no no, its front has none
pub front_none : (qs rs : List Question) → first_no (qs ++ rs) ≡ 0 → first_no qs ≡ 0
front_none qs rs e = by_eq (first_no qs) 0 (λ _ z. z) (λ _ n. sym (first_enough qs rs n) ∙ e)
