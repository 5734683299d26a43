-- The kind of a word: the rules' table is gone through in order.
use Rattle.std.specs.Prelude.{cond, List, [], ◌∷◌, ℕ, zero, suc, ◌+◌, ◌*◌, eqb, length, get_or, Option, Some, None}
use Rattle.lists.specs.Tests.{same_numbers}
use Rattle.rules.specs.Event.{Kind, kinds}

-- the kind of the first form with a word, where the first form is of kind k
unfoldable pub kind_from : ℕ → List Kind → List ℕ → Option ℕ
kind_from k [] w = None
kind_from k (f ∷ fs) w = cond (same_numbers w f.word) (Some k) (kind_from (suc k) fs w)

unfoldable pub kind_of_word : List ℕ → Option ℕ
kind_of_word w = kind_from 1 kinds w

-- a word as one number: a 1, and the bytes as digits in base 256
unfoldable pub packed_upto : List ℕ → ℕ → ℕ
packed_upto w zero = 1
packed_upto w (suc n) = 256 * packed_upto w n + get_or w n 0

unfoldable pub packed : List ℕ → ℕ
packed w = packed_upto w (length w)

-- the kind by its word's number, where the first form is of kind k
unfoldable pub packed_from : ℕ → List Kind → ℕ → Option ℕ
packed_from k [] p = None
packed_from k (f ∷ fs) p = cond (eqb p (packed f.word)) (Some k) (packed_from (suc k) fs p)

unfoldable pub kind_of_packed : ℕ → Option ℕ
kind_of_packed p = packed_from 1 kinds p
