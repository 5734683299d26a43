-- What a read of many blocks leaves is what gets leave one by one; and what it was answered.
use Rattle.std.specs.Prelude.{◌≡◌, List, [], ◌∷◌, ◌++◌, map, reverse, ℕ, ◌*◌, length, take, drop, get_or}
use Rattle.lists.specs.Runs.{run, enc_all, Below}
use Rattle.words.specs.Words.{le_bytes}
use Rattle.rules.specs.Event.{Event}
use Rattle.rules.specs.Call.{Call}
use Rattle.layout.specs.Store.{decode_bytes}
use Rattle.history.specs.Claim.{Answered}
use Rattle.calls.specs.Outcome.{outcomes, store_after}
use Rattle.read_many.specs.Read.{head_bytes, answer_bytes, answer, get_call, read_outcome}

-- the gets of the blocks, in the given order
abbrev pub gets_of : ℕ → ℕ → List ℕ → List Call
gets_of size proxy blocks = map (get_call size proxy) blocks

-- ---- what a read leaves, by its gets one after the other
pub record OneByOne (size : ℕ) (store : List ℕ) (proxy : ℕ) (blocks answers left : List ℕ) : Type 0 where
  -- the gets leave each byte of the store, as the read does
  pub kept : store_after store (gets_of size proxy blocks) ≡ store
  -- each answer, and each byte past the last
  pub answered : left ≡ enc_all answer (outcomes store (gets_of size proxy blocks)) ++ drop (length blocks * answer_bytes size) answers

abbrev pub ReadTheorem : Type 0
ReadTheorem = (store : List ℕ) (proxy : ℕ) (blocks answers : List ℕ) → Below 256 store → (read_outcome store proxy blocks answers).code ≡ 0
    → OneByOne (decode_bytes store).settings.size store proxy blocks answers (read_outcome store proxy blocks answers).left

-- ---- what it was answered, as a caller reads it from the bytes of the answers
abbrev pub answered_block : List ℕ → ℕ → ℕ → List ℕ → Answered
answered_block store proxy block bytes = record {
  event = Event.get proxy block;
  code = get_or bytes 0 0;
  said = record { key = le_bytes (reverse (run 1 8 bytes)); bytes = drop head_bytes bytes };
  found = decode_bytes store;
}

unfoldable pub answered_blocks : ℕ → List ℕ → ℕ → List ℕ → List ℕ → List Answered
answered_blocks size store proxy [] left = []
answered_blocks size store proxy (block ∷ blocks) left =
    answered_block store proxy block (take (answer_bytes size) left) ∷ answered_blocks size store proxy blocks (drop (answer_bytes size) left)
