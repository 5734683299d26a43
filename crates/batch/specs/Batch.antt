-- A list of events in one call: what as many calls of the step do, one after the other. Question 2 is asked once.
use Rattle.std.specs.Prelude.{◌≡◌, List, [], Bool, cond, ℕ, zero, suc, ◌+◌, ◌*◌, ◌/◌, ◌≤◌, leb, eqb, length, get_or, set, Result}
use Rattle.rules.specs.declared.refusal.Refusal.{Refusal}
use Rattle.lists.specs.Tests.{◌and◌}
use Rattle.lists.specs.Runs.{run, on_run}
use Rattle.rules.specs.declared.settings.Settings.{Settings}
use Rattle.rules.specs.Call.{Call}
use Rattle.rules.specs.Reads.{zeros}
use Rattle.layout.specs.Store.{decode_bytes, sound_bytes}
use Rattle.lent.specs.Stores.{StoreOf}
use Rattle.calls.specs.Outcome.{call_with, outcome, outcome_of}

-- ---- blocks in lent bytes
-- the block that begins at a byte; none where so many bytes are not there
unfoldable pub block_at : ℕ → ℕ → List ℕ → List ℕ
block_at size at bytes = cond (leb (at + size) (length bytes)) (run at size bytes) []

-- the bytes with another block in its place
unfoldable pub with_block : ℕ → ℕ → List ℕ → List ℕ → List ℕ
with_block size at new bytes = cond (leb (at + size) (length bytes)) (on_run at size (λ _. new) bytes) bytes

-- ---- the list: an event has five words: its kind, its three fields, and the byte where its block begins, a put's in the data, a get's in the area
abbrev pub event_words : ℕ
event_words = 5

-- an answer has two: code and key
abbrev pub answer_words : ℕ
answer_words = 2

-- what is lent to be read
pub record Batch : Type 0 where
  pub events : List ℕ
  pub bytes : List ℕ

abbrev pub batch_with : List ℕ → List ℕ → Batch
batch_with events bytes = record { events = events; bytes = bytes }

-- what is lent to be written
pub record Lent : Type 0 where
  pub store : List ℕ
  pub area : List ℕ
  pub answers : List ℕ

abbrev pub lent : List ℕ → List ℕ → List ℕ → Lent
lent store area answers = record { store = store; area = area; answers = answers }

abbrev pub word_at : Batch → ℕ → ℕ → ℕ
word_at batch i j = get_or batch.events (event_words * i + j) 0

abbrev pub kind_of : Batch → ℕ → ℕ
kind_of batch i = get_or batch.events (event_words * i) 0

-- where the block of event i begins
abbrev pub begins : Batch → ℕ → ℕ
begins batch i = word_at batch i 4

-- ---- event i as a call of the step: with its block of the data, a block of zeros, and its block of the area
abbrev pub call_at : ℕ → Batch → ℕ → List ℕ → Call
call_at size batch i area =
    call_with (kind_of batch i) (word_at batch i 1) (word_at batch i 2) (word_at batch i 3)
    (block_at size (begins batch i) batch.bytes) (zeros size) (block_at size (begins batch i) area)

-- event i, on what the events before left: the outcome of its call, with its block of the area and its two words of the answers
unfoldable pub turn : ℕ → Batch → ℕ → Lent → Lent
turn size batch i l =
    let o = outcome l.store (call_at size batch i l.area) in
    lent o.store (with_block size (begins batch i) o.area l.area) (set (set l.answers (answer_words * i) o.code) (answer_words * i + 1) o.key)

-- the first i events
unfoldable pub turns : ℕ → Batch → ℕ → Lent → Lent
turns size batch zero l = l
turns size batch (suc i) l = turn size batch i (turns size batch i l)

-- ---- the call
-- how many events there are
unfoldable pub count : Batch → ℕ
count batch = length batch.events / event_words

-- a whole number of events, and as many answers?
unfoldable pub is_batch : Batch → Lent → Bool
is_batch batch l = eqb (length batch.events) (event_words * count batch) and eqb (length l.answers) (answer_words * count batch)

-- the number, and each byte and word that is lent to be written
pub record Ran : Type 0 where
  pub code : ℕ
  pub left : Lent

abbrev pub ran : ℕ → Lent → Ran
ran code l = record { code = code; left = l }

-- 2 where the store is not sound, 3 where the events are no whole number or the answers not as many, and then nothing changes; else 0, and each event in turn
unfoldable pub batch_outcome : Batch → Lent → Ran
batch_outcome batch l =
    cond (sound_bytes l.store) (cond (is_batch batch l) (ran 0 (turns (decode_bytes l.store).settings.size batch (count batch) l)) (ran 3 l)) (ran 2 l)

-- ---- what the code of the events asks
-- a sound store, and so many events and answers
pub record Fits (settings : Settings) (n : ℕ) (events answers store : List ℕ) : Type 0 where
  pub held : StoreOf settings store
  pub events_in : event_words * n ≤ length events
  pub answers_in : answer_words * n ≤ length answers

-- one event on a store: the outcome of its call, with its block of the area
pub record StepsAt (size at : ℕ) (call : Call) (store area : List ℕ) (r : Result ℕ Refusal) (after area_after : List ℕ) : Type 0 where
  pub same : outcome_of r (outcome store call).area after ≡ outcome store call
  pub fills : area_after ≡ with_block size at (outcome store call).area area
