-- What a call of the step brings, and the event that it makes.
use Rattle.std.specs.Prelude.{List, Bool, not, cond, ℕ, eqb, length}
use Rattle.lists.specs.Tests.{◌and◌, ◌or◌, every}
use Rattle.rules.specs.Event.{Event, event_from}

pub record Call : Type 0 where
  pub kind : ℕ
  pub a : ℕ
  pub b : ℕ
  pub c : ℕ
  -- the data
  pub bytes : List ℕ
  pub zero_block : List ℕ
  -- for what a get answers
  pub area : List ℕ

abbrev pub get_kind : ℕ
get_kind = 10

unfoldable pub is_zero_block : ℕ → List ℕ → Bool
is_zero_block size bytes = eqb (length bytes) size and every (λ b. eqb b 0) bytes

-- question 3 of a get: zero block S zeros, lent answer S bytes? Other kinds take any areas
abbrev pub lends : ℕ → Call → Bool
lends size call = is_zero_block size call.zero_block and eqb (length call.area) size

unfoldable pub event_called : ℕ → Call → Event
event_called size call =
    cond (not (eqb call.kind get_kind) or lends size call) (event_from call.kind call.a call.b call.c call.bytes) Event.unknown
