-- What the steps of print write.
use Rattle.std.specs.Prelude.{cond, List, [], ◌∷◌, map, ℕ, length, take, Option, Some, None}
use Rattle.decimal.specs.Decimal.{decimal}
use Rattle.text.specs.Fields.{parted}
use Rattle.rules.specs.Event.{EventFields}
use Rattle.text.specs.Lines.{line_of, is_well_formed}

-- the first n of three numbers, a comma before each
unfoldable pub number_texts : ℕ → ℕ → ℕ → ℕ → List ℕ
number_texts n a b c = parted (map decimal (take n (a ∷ b ∷ c ∷ [])))

-- the length of a well-formed event's line
unfoldable pub length_of_line : ℕ → EventFields → Option ℕ
length_of_line S e = cond (is_well_formed S e) (Some (length (line_of e))) None
