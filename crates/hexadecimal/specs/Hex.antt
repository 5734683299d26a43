-- Bytes in hexadecimal: two digits for each, the greater first, lower case.
use Rattle.std.specs.Prelude.{Bool, true, false, cond, List, [], ◌∷◌, ℕ, ◌+◌, ◌-◌, ◌*◌, ◌/◌, ◌%◌, ltb, eqb, length, Option, Some, None}

-- the digit of a number below 16: 0 to 9, a to f
unfoldable pub hex_digit : ℕ → ℕ
hex_digit d = cond (ltb d 10) (48 + d) (87 + d)

unfoldable pub hex : List ℕ → List ℕ
hex [] = []
hex (b ∷ bs) = hex_digit (b / 16) ∷ hex_digit (b % 16) ∷ hex bs

-- 0 to 9 or a to f
unfoldable pub is_digit : ℕ → Bool
is_digit b = cond (ltb b 58) (ltb 47 b) (cond (ltb b 103) (ltb 96 b) false)

-- the number that a digit stands for
unfoldable pub digit_value : ℕ → ℕ
digit_value b = cond (ltb b 58) (b - 48) (b - 87)

unfoldable pub only_digits : List ℕ → Bool
only_digits [] = true
only_digits (b ∷ bs) = cond (is_digit b) (only_digits bs) false

-- the bytes that pairs of digits give
unfoldable pub unhex : List ℕ → List ℕ
unhex [] = []
unhex (a ∷ []) = []
unhex (a ∷ b ∷ s) = (16 * digit_value a + digit_value b) ∷ unhex s

-- is a text n bytes?
unfoldable pub spells_bytes : ℕ → List ℕ → Bool
spells_bytes n s = cond (eqb (length s) (2 * n)) (only_digits s) false

-- the n bytes that a text is
unfoldable pub hex_bytes : ℕ → List ℕ → Option (List ℕ)
hex_bytes n s = cond (spells_bytes n s) (Some (unhex s)) None
