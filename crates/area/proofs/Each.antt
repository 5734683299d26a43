-- What holds of each element of a list.
use mathlib.Core.Path.{◌≡◌}
use mathlib.Core.Bool.{Bool, true}
use mathlib.Core.List.{List, [], ◌∷◌, ◌++◌}
use Prim.Native.Nat.{ℕ, ◌<◌}
use Rattle.lists.specs.Tests.{every}
use Rattle.lists.proofs.Tests.{and_l, and_r}

pub data Each {A : Type 0} (P : A → Type 0) : List A → Type 0 where
  each_none : Each P []
  each_more : {x : A} {xs : List A} → P x → Each P xs → Each P (x ∷ xs)

abbrev pub Above : ℕ → List ℕ → Type 0
Above n = Each (λ (x : ℕ). n < x)

abbrev pub Below : ℕ → List ℕ → Type 0
Below n = Each (λ (x : ℕ). x < n)

pub each_append : {A : Type 0} {P : A → Type 0} {xs ys : List A} → Each P xs → Each P ys → Each P (xs ++ ys)
each_append each_none q = q
each_append (each_more h p) q = each_more h (each_append p q)

-- by a test
pub each_of : {A : Type 0} (P : A → Type 0) (test : A → Bool) → ((x : A) → test x ≡ true → P x) → (xs : List A) → every test xs ≡ true → Each P xs
unfolding every
each_of P test f [] e = each_none
each_of P test f (x ∷ xs) e = each_more (f x (and_l _ _ e)) (each_of P test f xs (and_r _ _ e))
