-- What a step is: refused with nothing changed, or accepted with every answer yes.
use mathlib.Core.Path.{◌≡◌, refl, sym, subst, ◌∙◌}
use mathlib.Core.List.{List, [], ◌∷◌}
use mathlib.Core.Bool.{true, cond}
use mathlib.Core.Logic.{◌⊎◌, inl, inr}
use Prim.Native.Nat.{ℕ, zero, suc, ◌≤◌, ◌<◌}
use native.Mathlib.Omega.{arith}
use lib.Dec.{eqb}
use borrow.Author.Tests.{eq-eqb, leb-true}
use Rattle.lists.specs.Tests.{◌and◌}
use Rattle.lists.proofs.Tests.{by, either, clash, and_l, and_r}
use Rattle.rules.specs.Event.{Event}
use Rattle.rules.specs.State.{State}
use Rattle.rules.specs.Question.{Question, first_no, AllYes}
use Rattle.rules.specs.Step.{Outcome, only_key, rule, finish, step}
use Rattle.rules.proofs.Questions.{first_yes, first_stop, none_asked, max_code, numbered, all_yes}

-- an event's questions have numbers of questions
pub rule_numbered : (s : State) (e : Event) → numbered (rule s e).questions ≡ true
unfolding rule ◌and◌
rule_numbered s (Event.put p i b d) = refl
rule_numbered s (Event.copy k) = refl
rule_numbered s (Event.savelog i) = refl
rule_numbered s (Event.map p b) = refl
rule_numbered s (Event.send b) = refl
rule_numbered s (Event.deliver n) = refl
rule_numbered s (Event.drop n) = refl
rule_numbered s (Event.savemap i) = refl
rule_numbered s (Event.done p b) = refl
rule_numbered s (Event.get p b) = refl
rule_numbered s (Event.abandon p b) = refl
rule_numbered s (Event.learn p) = refl
rule_numbered s (Event.reset p) = refl
rule_numbered s (Event.crash i) = refl
rule_numbered s (Event.lose i) = refl
rule_numbered s (Event.rise i) = refl
rule_numbered s (Event.join i) = refl
rule_numbered s Event.view = refl
rule_numbered s (Event.fetch g) = refl
rule_numbered s (Event.ready g) = refl
rule_numbered s (Event.mend i) = refl
rule_numbered s (Event.collect i) = refl
rule_numbered s Event.unknown = refl

abbrev pub Yes : State → Event → Type 0
Yes s e = AllYes (rule s e).questions

pub data Stepped (s : State) (e : Event) : Outcome → Type 0 where
  refused : (c : ℕ) → Stepped s e (record { code = suc c; said = only_key 0; after = s })
  accepted : Yes s e → Stepped s e (record { code = 0; said = (rule s e).said; after = (rule s e).after })

pub stepped : (s : State) (e : Event) → Stepped s e (step s e)
unfolding step
stepped s e = go (first_no (rule s e).questions) refl
  where
    go : (n : ℕ) → first_no (rule s e).questions ≡ n → Stepped s e (finish s (rule s e) n)
    go zero h = accepted (all_yes (rule s e).questions (rule_numbered s e) h)
    go (suc c) h = refused c

pub code_is : (s : State) (e : Event) → (step s e).code ≡ first_no (rule s e).questions
unfolding step
code_is s e = go (first_no (rule s e).questions)
  where
    go : (n : ℕ) → (finish s (rule s e) n).code ≡ n
    go zero = refl
    go (suc n) = refl

-- ---- the code is 0 or the number of a question
abbrev pub Numbered : ℕ → Type 0
Numbered c = (c ≡ 0) ⊎ ((3 ≤ c) × (c ≤ max_code))

first_numbered : (qs : List Question) → numbered qs ≡ true → Numbered (first_no qs)
unfolding first_no
first_numbered [] t = inl refl
first_numbered (q ∷ qs) t =
    either Numbered q.yes (λ _. first_numbered qs (and_r _ _ t))
    (λ _. let n = and_l _ _ t in inr (leb-true 3 q.code (and_l _ _ n), leb-true q.code max_code (and_r _ _ n)))

pub step_numbers : (s : State) (e : Event) → Numbered (step s e).code
step_numbers s e = subst Numbered (sym (code_is s e)) (first_numbered _ (rule_numbered s e))

-- ---- refused with a number: the questions before the first of that number were answered yes, and one of that number no
abbrev pub before : ℕ → List Question → List Question
before c [] = []
before c (q ∷ qs) = cond (eqb q.code c) [] (q ∷ before c qs)

abbrev pub of_number : ℕ → List Question → List Question
of_number c [] = []
of_number c (q ∷ qs) = cond (eqb q.code c) (q ∷ of_number c qs) (of_number c qs)

yes_before : (c : ℕ) (qs : List Question) → first_no qs ≡ c → AllYes (before c qs)
yes_before c [] e = tt
yes_before c (q ∷ qs) e =
    either AllYes (eqb q.code c) (λ _. tt)
    (λ n. by q.yes (λ y. (y, yes_before c qs (sym (first_yes q.code qs y) ∙ e))) (λ z. clash n (eq-eqb _ _ (sym (first_stop q.code qs z) ∙ e))))

one_no : (c : ℕ) (qs : List Question) → first_no qs ≡ c → 0 < c → AllYes (of_number c qs) → ⊥
one_no c [] e l = λ y. omega (arith, none_asked)
one_no c (q ∷ qs) e l =
    either (λ rs. AllYes rs → ⊥) (eqb q.code c)
    (λ _ y. one_no c qs (sym (first_yes q.code qs y.0) ∙ e) l y.1)
    (λ n y. by q.yes (λ z. one_no c qs (sym (first_yes q.code qs z) ∙ e) l y) (λ z. clash n (eq-eqb _ _ (sym (first_stop q.code qs z) ∙ e))))

-- no refusal has a number whose questions are answered yes wherever those before them are
pub never_answered : (c : ℕ) (qs : List Question) → 0 < c → (AllYes (before c qs) → AllYes (of_number c qs)) → first_no qs ≡ c → ⊥
never_answered c qs l h e = one_no c qs e l (h (yes_before c qs e))
