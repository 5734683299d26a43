-- The outcome of a call on lent bytes: question 2, then the rules' step on the state that the bytes stand for, rendered over them.
use Rattle.std.specs.Prelude.{List, [], ◌∷◌, cond, ℕ, eqb, Result}
use Rattle.rules.specs.declared.refusal.Refusal.{Refusal}
use Rattle.rules.specs.Refusals.{code_of}
use Rattle.lists.specs.Tests.{◌and◌}
use Rattle.rules.specs.Event.{Event}
use Rattle.rules.specs.Call.{Call, get_kind, event_called}
use Rattle.rules.specs.Step.{Outcome as Stepped, step}
use Rattle.layout.specs.Store.{decode_bytes, render_bytes, sound_bytes}
use Rattle.lent.specs.Performs.{key_of}

-- the number, the key, each byte of the answer area and each byte of the store
pub record Outcome : Type 0 where
  pub code : ℕ
  pub key : ℕ
  pub area : List ℕ
  pub store : List ℕ

abbrev pub call_with : ℕ → ℕ → ℕ → ℕ → List ℕ → List ℕ → List ℕ → Call
call_with kind a b c bytes zero_block area = record { kind = kind; a = a; b = b; c = c; bytes = bytes; zero_block = zero_block; area = area }

-- an accepted get fills the area with the answered bytes; everything else leaves it
unfoldable pub filled : Call → Stepped → List ℕ
filled call o = cond (eqb call.kind get_kind and eqb o.code 0) o.said.bytes call.area

abbrev pub performed : List ℕ → Call → Stepped → Outcome
performed bs call o = record { code = o.code; key = o.said.key; area = filled call o; store = render_bytes o.after bs }

abbrev pub unsound : List ℕ → Call → Outcome
unsound bs call = record { code = 2; key = 0; area = call.area; store = bs }

-- the event that a call makes on lent bytes: the block size is theirs
abbrev pub event_on : List ℕ → Call → Event
event_on bs call = event_called (decode_bytes bs).settings.size call

unfoldable pub outcome : List ℕ → Call → Outcome
outcome bs call = cond (sound_bytes bs) (performed bs call (step (decode_bytes bs) (event_on bs call))) (unsound bs call)

-- ---- single calls, each on the store as the last left it: their outcomes, and the store at the end
unfoldable pub outcomes : List ℕ → List Call → List Outcome
outcomes bs [] = []
outcomes bs (call ∷ calls) = outcome bs call ∷ outcomes (outcome bs call).store calls

unfoldable pub store_after : List ℕ → List Call → List ℕ
store_after bs [] = bs
store_after bs (call ∷ calls) = store_after (outcome bs call).store calls

-- ---- the number and the key of the code's answer, beside the bytes that it leaves
abbrev pub outcome_of : Result ℕ Refusal → List ℕ → List ℕ → Outcome
outcome_of r area store = record { code = code_of r; key = key_of r; area = area; store = store }
