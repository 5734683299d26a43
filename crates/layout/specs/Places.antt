-- Bricks stand at places, and the rules name them by id. Id 0 is an empty place; several places may be empty.
use Rattle.std.specs.Prelude.{◌≡◌, cond, ℕ, zero, suc, ◌<◌, eqb}

-- a column by place, seen by id: the value at a place below n that has the id; d where there is none, and for id 0
unfoldable pub by_id {ℓ} : {A : Type ℓ} → ℕ → (ℕ → ℕ) → A → (ℕ → A) → ℕ → A
by_id zero ids d f i = d
by_id (suc n) ids d f zero = d
by_id (suc n) ids d f (suc i) = cond (eqb (ids n) (suc i)) (f n) (by_id n ids d f (suc i))

-- no id at two places below n
abbrev pub Apart : ℕ → (ℕ → ℕ) → Type 0
Apart n ids = (p q : ℕ) → p < n → q < n → ids p ≡ ids q → 0 < ids p → p ≡ q
