-- Columns by place, seen by id: what is seen under an id, and what a change, a loss and a join at a place do.
use mathlib.Core.Path.{◌≡◌, refl, sym, ap, ◌∙◌}
use Prim.Native.Nat.{ℕ, zero, suc, ◌<◌}
use native.Mathlib.Omega.{arith}
use Rattle.lists.proofs.Tests.{by_eq}
use Rattle.layout.specs.Places.{by_id, Apart}

pub of_zero {ℓ} : {A : Type ℓ} (n : ℕ) (ids : ℕ → ℕ) (d : A) (f : ℕ → A) → by_id n ids d f 0 ≡ d
unfolding by_id
of_zero zero ids d f = refl
of_zero (suc n) ids d f = refl

-- what is seen under an id is what a place with that id has, or d
pub data Seen {ℓ} {A : Type ℓ} (n : ℕ) (ids : ℕ → ℕ) (d : A) (f : ℕ → A) (i : ℕ) (v : A) : Type ℓ where
  at_place : (p : ℕ) → p < n → ids p ≡ i → 0 < i → v ≡ f p → Seen n ids d f i v
  nowhere : ((p : ℕ) → p < n → ids p ≡ i → 0 < i → ⊥) → v ≡ d → Seen n ids d f i v

pub of_cases {ℓ} : {A : Type ℓ} (n : ℕ) (ids : ℕ → ℕ) (d : A) (f : ℕ → A) (i : ℕ) → Seen n ids d f i (by_id n ids d f i)
unfolding by_id
of_cases zero ids d f i = nowhere (λ p l. absurd (omega arith)) refl
of_cases (suc n) ids d f zero = nowhere (λ p l e z. absurd (omega arith)) refl
of_cases (suc n) ids d f (suc i) =
    by_eq (ids n) (suc i) (λ q e. at_place n (omega arith) e (omega arith) (rw q))
    (λ q e. elim (of_cases n ids d f (suc i)) [
      | at_place p l z o v ↦ at_place p (omega arith) z o (rw q v)
      | nowhere u v ↦ nowhere (λ p l z o. by_eq p n (λ _ y. e (sym (ap ids y) ∙ z)) (λ _ y. u p (omega arith) z o)) (rw q v)
    ])

module _ {ℓ} {A : Type ℓ} (n : ℕ) (ids : ℕ → ℕ) (d : A) (f : ℕ → A) where
  -- the one brick with this id is seen
  pub of_self : (p i : ℕ) → p < n → ids p ≡ i → 0 < i → ((r : ℕ) → r < n → ids r ≡ i → r ≡ p) → by_id n ids d f i ≡ f p
  of_self p i l e o u = elim (of_cases n ids d f i) [
    | at_place r m z _ v ↦ v ∙ ap f (u r m z)
    | nowhere w v ↦ absurd (w p l e o)
  ]

  -- under an id that stands nowhere nothing is seen
  pub of_none : (i : ℕ) → ((p : ℕ) → p < n → ids p ≡ i → 0 < i → ⊥) → by_id n ids d f i ≡ d
  of_none i u = elim (of_cases n ids d f i) [ at_place r m z o v ↦ absurd (u r m z o) | nowhere w v ↦ v ]

-- a column by id, taken to the places and seen by id again
pub of_column {ℓ} : {A : Type ℓ} (n : ℕ) (ids : ℕ → ℕ) (d : A) (f : ℕ → A) (i : ℕ)
    → (((p : ℕ) → p < n → ids p ≡ i → 0 < i → ⊥) → f i ≡ d) → by_id n ids d (λ p. f (ids p)) i ≡ f i
of_column n ids d f i h = elim (of_cases n ids d (λ p. f (ids p)) i) [ at_place r m z o v ↦ v ∙ ap f z | nowhere w v ↦ v ∙ sym (h w) ]

-- a change of one brick, by id and by place
pub one_brick : {A : Type 0} (n : ℕ) (ids : ℕ → ℕ) (f g : ℕ → A) (p : ℕ) → Apart n ids → p < n → 0 < ids p → ((i : ℕ) → (i ≡ ids p → ⊥) → f i ≡ g i)
    → (q : ℕ) → q < n → (q ≡ p → ⊥) → f (ids q) ≡ g (ids q)
one_brick n ids f g p u h z e q l x = e (ids q) (λ y. x (u q p l h y (omega (arith, y))))

-- what is seen of a part is the part of what is seen; places that agree under an id are seen alike
pub of_map {ℓ κ} : {A : Type ℓ} {B : Type κ} (n : ℕ) (ids : ℕ → ℕ) (d : A) (f : ℕ → A) (g : A → B) (i : ℕ)
    → g (by_id n ids d f i) ≡ by_id n ids (g d) (λ p. g (f p)) i
unfolding by_id
of_map zero ids d f g i = refl
of_map (suc n) ids d f g zero = refl
of_map (suc n) ids d f g (suc i) = by_eq (ids n) (suc i) (λ q e. rw q) (λ q e. rw q (of_map n ids d f g (suc i)))

pub of_same {ℓ} : {A : Type ℓ} (n : ℕ) (ids : ℕ → ℕ) (d : A) (f g : ℕ → A) (i : ℕ) → ((p : ℕ) → p < n → ids p ≡ i → 0 < i → f p ≡ g p)
    → by_id n ids d f i ≡ by_id n ids d g i
unfolding by_id
of_same zero ids d f g i e = refl
of_same (suc n) ids d f g zero e = refl
of_same (suc n) ids d f g (suc i) e =
    by_eq (ids n) (suc i) (λ q z. rw q (e n (omega arith) z (omega arith))) (λ q z. rw q (of_same n ids d f g (suc i) (λ p l. e p (omega arith))))
