-- Numbers below 2^64 in decimal: the greatest digit first, no leading zeros, no sign.
use Rattle.std.specs.Prelude.{cond, List, [], ◌∷◌, ◌++◌, ℕ, zero, suc, ◌+◌, ◌-◌, ◌*◌, ◌/◌, ◌%◌, ◌^◌, ltb, eqb, Option, Some, None}

-- the digits of n, at most so many
unfoldable pub digits : ℕ → ℕ → List ℕ
digits zero n = []
digits (suc most) n = cond (ltb n 10) ((48 + n) ∷ []) (digits most (n / 10) ++ ((48 + n % 10) ∷ []))

-- a number below 2^64 has at most 20 digits
unfoldable pub decimal : ℕ → List ℕ
decimal n = digits 20 n

-- the number v with one more digit; none where the byte is no digit, or the number would be 2^64 or more
unfoldable pub push : ℕ → ℕ → Option ℕ
push v b = cond (ltb b 48) None (cond (ltb b 58) (cond (ltb (10 * v + (b - 48)) (2 ^ 64)) (Some (10 * v + (b - 48))) None) None)

unfoldable pub and_then : {A B : Type 0} → Option A → (A → Option B) → Option B
and_then None f = None
and_then (Some a) f = f a

-- the number v with more digits
unfoldable pub spelled : ℕ → List ℕ → Option ℕ
spelled v [] = Some v
spelled v (b ∷ bs) = and_then (push v b) (λ w. spelled w bs)

-- the number that a text is: one digit or more, the first no 0 where there are two or more
unfoldable pub number_of : List ℕ → Option ℕ
number_of [] = None
number_of (b ∷ []) = spelled 0 (b ∷ [])
number_of (b ∷ c ∷ bs) = cond (eqb b 48) None (spelled 0 (b ∷ c ∷ bs))
