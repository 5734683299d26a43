-- A list of bytes as a list of 64-bit words, the least byte of each first. The store lies in lent bytes; every promise of a part speaks of its words.
use Rattle.std.specs.Prelude.{List, [], ◌∷◌, ◌++◌, ℕ, zero, suc, ◌+◌, ◌*◌, ◌/◌, ◌%◌, length, take, drop}

-- the number that bytes spell, the least byte first
unfoldable pub le_bytes : List ℕ → ℕ
le_bytes [] = 0
le_bytes (b ∷ bs) = b + 256 * le_bytes bs

-- the n lowest bytes of x, the least first
unfoldable pub bytes_of : ℕ → ℕ → List ℕ
bytes_of zero x = []
bytes_of (suc n) x = x % 256 ∷ bytes_of n (x / 256)

-- the first n words
unfoldable pub first_words : ℕ → List ℕ → List ℕ
first_words zero s = []
first_words (suc n) s = le_bytes (take 8 s) ∷ first_words n (drop 8 s)

-- all whole words
unfoldable pub words : List ℕ → List ℕ
words s = first_words (length s / 8) s

-- the bytes of a list of words
unfoldable pub unwords : List ℕ → List ℕ
unwords [] = []
unwords (w ∷ ws) = bytes_of 8 w ++ unwords ws
