-- Positions in the order of their keys. `key i` is the key at position i.
use Rattle.std.specs.Prelude.{cond, List, [], ◌∷◌, ℕ, zero, suc, ltb}

-- a position goes before the first one whose key is not below its own
unfoldable pub insert_position : (ℕ → ℕ) → ℕ → List ℕ → List ℕ
insert_position key p [] = p ∷ []
insert_position key p (q ∷ qs) = cond (ltb (key q) (key p)) (q ∷ insert_position key p qs) (p ∷ q ∷ qs)

-- the positions below n, by ascending key
unfoldable pub positions : (ℕ → ℕ) → ℕ → List ℕ
positions key zero = []
positions key (suc n) = insert_position key n (positions key n)
