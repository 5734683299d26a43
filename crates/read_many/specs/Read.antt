-- Many blocks of one proxy in one call: the answers of as many gets, one after the other in lent bytes. Question 2 is asked once.
use Rattle.std.specs.Prelude.{List, [], ◌∷◌, ◌++◌, reverse, Bool, cond, ℕ, ◌+◌, ◌*◌, leb, length, drop}
use Rattle.lists.specs.Tests.{◌and◌}
use Rattle.lists.specs.Runs.{enc_all}
use Rattle.words.specs.Words.{bytes_of}
use Rattle.rules.specs.Call.{Call, get_kind}
use Rattle.rules.specs.Reads.{zeros}
use Rattle.layout.specs.Store.{decode_bytes, sound_bytes}
use Rattle.calls.specs.Outcome.{Outcome, call_with, outcome}

-- (ii): up to 64 block numbers
abbrev pub max_blocks : ℕ
max_blocks = 64

-- ---- one answer
-- (ii): the code in one byte, the key in eight, high byte first
abbrev pub head_bytes : ℕ
head_bytes = 9

unfoldable pub head : ℕ → ℕ → List ℕ
head code key = code ∷ reverse (bytes_of 8 key)

-- (ii): and S bytes
abbrev pub answer_bytes : ℕ → ℕ
answer_bytes size = head_bytes + size

unfoldable pub answer : Outcome → List ℕ
answer o = head o.code o.key ++ o.area

-- the get of a block as a call of the step: its area is zeros, so a refusal leaves zeros
abbrev pub get_call : ℕ → ℕ → ℕ → Call
get_call size proxy block = call_with get_kind proxy block 0 [] (zeros size) (zeros size)

-- (ii): each block answered as a get would, refused ones included
abbrev pub get_answer : ℕ → List ℕ → ℕ → ℕ → List ℕ
get_answer size store proxy block = answer (outcome store (get_call size proxy block))

-- ---- all answers
-- (ii): in the given order, a block named twice answered twice; the area past the last answer keeps its bytes
unfoldable pub answers_to : ℕ → List ℕ → ℕ → List ℕ → List ℕ → List ℕ
answers_to size store proxy blocks answers = enc_all (get_answer size store proxy) blocks ++ drop (length blocks * answer_bytes size) answers

-- ---- the call
-- so many blocks, and room for their answers in so many bytes?
unfoldable pub fits : ℕ → ℕ → ℕ → Bool
fits size blocks room = leb blocks max_blocks and leb (blocks * answer_bytes size) room

-- the number, and each byte that is lent to be written
pub record Read : Type 0 where
  pub code : ℕ
  pub left : List ℕ

abbrev pub read : ℕ → List ℕ → Read
read code left = record { code = code; left = left }

-- (ii): 2 where the store is unsound, 3 where the list is longer than 64 or the area too short, and then nothing changes; else 0, and each answer
unfoldable pub read_outcome : List ℕ → ℕ → List ℕ → List ℕ → Read
read_outcome store proxy blocks answers =
    let size = (decode_bytes store).settings.size in
    cond (sound_bytes store)
    (cond (fits size (length blocks) (length answers)) (read 0 (answers_to size store proxy blocks answers)) (read 3 answers)) (read 2 answers)
