-- A column gives each number a value.
use Rattle.std.specs.Prelude.{cond, ℕ, eqb}

-- the column with another value at one number
unfoldable pub upd {ℓ} : {A : Type ℓ} → (ℕ → A) → ℕ → A → ℕ → A
upd f i v j = cond (eqb j i) v (f j)
