-- What print answers and leaves.
use Rattle.std.specs.Prelude.{Bool, cond, List, ℕ, leb, length, Option, Some, None}
use Rattle.area.specs.Area.{onto}
use Rattle.rules.specs.Event.{EventFields}
use Rattle.text.specs.Lines.{line_of, is_well_formed}
use Rattle.lists.specs.Tests.{◌and◌}
use Rattle.print.specs.declared.for_c.LineAnswer.{LineAnswer}

-- question 3: kind known, data of S bytes, and the area for the text long enough? So much room is lent for the line
unfoldable pub can_print : ℕ → EventFields → ℕ → Bool
can_print S e room = is_well_formed S e and leb (length (line_of e)) room

unfoldable pub printed : ℕ → EventFields → ℕ → Option ℕ
printed S e room = cond (can_print S e room) (Some (length (line_of e))) None

-- the line at the front of the area, or the area as it was
unfoldable pub line_after : ℕ → EventFields → List ℕ → List ℕ
line_after S e area = cond (can_print S e (length area)) (onto 0 (line_of e) area) area

-- the number and the values of each answer, as the call for C gives them
unfoldable pub line_answer : Option ℕ → LineAnswer
line_answer (Some n) = record { code = 0; length = n }
line_answer None = record { code = 3; length = 0 }
