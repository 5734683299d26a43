-- Alike, of two lent stores.
use Rattle.std.specs.Prelude.{List, Bool, true, false, not, cond, ℕ, Result, Ok, Err}
use Rattle.rules.specs.declared.refusal.Refusal.{Refusal}
use Rattle.rules.specs.declared.refusal.Refusal.TheVariants.{Unsound}
use Rattle.rules.specs.Refusals.{number}
use Rattle.lists.specs.Tests.{◌and◌, ◌or◌}
use Rattle.rules.specs.declared.settings.Settings.{Settings}
use Rattle.rules.specs.State.{State}
use Rattle.rules.specs.Derived.{primary_memory}
use Rattle.rules.specs.Sound.{same_entries}
use Rattle.rules.specs.Alike.{alike}
use Rattle.layout.specs.Store.{decode_bytes, sound_bytes}
use Rattle.lent.specs.Stores.{StoreOf}

unfoldable pub alike_answer : List ℕ → List ℕ → Result Bool Refusal
alike_answer one other = cond (sound_bytes one and sound_bytes other) (Ok (alike (decode_bytes one) (decode_bytes other))) (Err Unsound)

-- the numbers: 0 says yes as in every call, 2 is question 2, and 1 is left for no; cmp and diff answer by the same three
unfoldable pub alike_number : Result Bool Refusal → ℕ
alike_number (Ok true) = 0
alike_number (Ok false) = 1
alike_number (Err refusal) = number refusal

-- ---- its parts, as they are walked
-- two sound stores of the same settings
pub record Two (settings : Settings) (one other : List ℕ) : Type 0 where
  pub first : StoreOf settings one
  pub second : StoreOf settings other

-- the brick at a place of the one is a member of the other, where it is a member
abbrev pub member_in : State → State → ℕ → Bool
member_in one other place = not (one.bricks.member (one.ids place)) or other.bricks.member (one.ids place)

-- a bucket's primaries have the same entries in memory
abbrev pub same_primary : State → State → ℕ → Bool
same_primary one other bucket = same_entries (primary_memory (one.bucket bucket)) (primary_memory (other.bucket bucket))
