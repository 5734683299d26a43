-- get: what the code promises of its look-up, for a caller that takes a part, and for one in C that lends an area.
use Rattle.std.specs.Prelude.{◌≡◌, List, [], cond, ℕ, Option, None, Some, Result, Ok, Err, eqb, length}
use Rattle.lists.specs.Tests.{◌and◌}
use Rattle.rules.specs.declared.settings.Settings.{Settings}
use Rattle.rules.specs.declared.refusal.Refusal.{Refusal}
use Rattle.rules.specs.Refusals.{number, code_of}
use Rattle.rules.specs.Event.{Event}
use Rattle.rules.specs.Call.{is_zero_block}
use Rattle.rules.specs.State.{State}
use Rattle.rules.specs.Derived.{holder}
use Rattle.rules.specs.Question.{first_no}
use Rattle.rules.specs.Reads.{mapped, get_asks}
use Rattle.rules.specs.Step.{step}
use Rattle.lent.specs.Performs.{key_of}
use Rattle.holders.specs.Members.{LiesAt}
use Rattle.reads.specs.declared.Chunk.{Chunk}
use Rattle.reads.specs.declared.Found.{Found}

-- ---- the look-up: an accepted get with a mapping, and where the chunk of the mapped key lies
pub record Located (settings : Settings) (s : State) (proxy block key place row : ℕ) : Type 0 where
  pub accepted : first_no (get_asks s proxy block) ≡ 0
  pub key_mapped : key ≡ mapped s block
  pub some : key ≡ 0 → ⊥
  pub lies : LiesAt settings s (holder s key) key place row

abbrev pub LooksUp : Settings → State → ℕ → ℕ → Result (Option Chunk) Refusal → Type 0
LooksUp settings s proxy block (Err refusal) = number refusal ≡ first_no (get_asks s proxy block)
LooksUp settings s proxy block (Ok None) = (first_no (get_asks s proxy block) ≡ 0) × (mapped s block ≡ 0)
LooksUp settings s proxy block (Ok (Some chunk)) = Located settings s proxy block chunk.key.0 chunk.place chunk.row

-- ---- what get answers: on a refusal no key and no bytes
abbrev pub found_key : Result Found Refusal → ℕ
found_key (Ok found) = found.key
found_key (Err _) = 0

abbrev pub found_bytes : Result Found Refusal → List ℕ
found_bytes (Ok found) = found.bytes.now
found_bytes (Err _) = []

-- ---- number, key and bytes of the outcome, of which the store is no part
pub record Gets (s : State) (proxy block code key : ℕ) (bytes : List ℕ) : Type 0 where
  pub number : code ≡ (step s (Event.get proxy block)).code
  pub found : key ≡ (step s (Event.get proxy block)).said.key
  pub same : bytes ≡ (step s (Event.get proxy block)).said.bytes

-- ---- an area of a block's size: the answer to an event, and what the area then holds: the answered bytes, or on a refusal what it held
pub record Fills (s : State) (e : Event) (area : List ℕ) (r : Result ℕ Refusal) (after : List ℕ) : Type 0 where
  pub code : code_of r ≡ (step s e).code
  pub key : key_of r ≡ (step s e).said.key
  pub fills : after ≡ cond (eqb (step s e).code 0) (step s e).said.bytes area

-- ---- a caller in C lends a block of zeros and an area of a block's size: question 3 asks for both, so without them it is no event
abbrev pub read_event : ℕ → List ℕ → List ℕ → ℕ → ℕ → Event
read_event size zero_block area proxy block = cond (is_zero_block size zero_block and eqb (length area) size) (Event.get proxy block) Event.unknown

abbrev pub GetsInto : State → List ℕ → List ℕ → ℕ → ℕ → Result ℕ Refusal → List ℕ → Type 0
GetsInto s zero_block area proxy block r after = Fills s (read_event s.settings.size zero_block area proxy block) area r after
