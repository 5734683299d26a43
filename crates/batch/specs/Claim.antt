-- What a batch leaves is what its calls leave one by one; and what its events were answered.
use Rattle.std.specs.Prelude.{◌≡◌, List, [], ◌∷◌, map, Bool, false, cond, ℕ, zero, suc, ◌+◌, ◌*◌, ◌≤◌, ◌<◌, ltb, eqb, get_or}
use Rattle.lists.specs.Tests.{◌and◌, any_below}
use Rattle.lists.specs.Runs.{run, enc_all, Below}
use Rattle.rules.specs.Call.{Call, get_kind, event_called}
use Rattle.layout.specs.Store.{decode_bytes}
use Rattle.history.specs.Claim.{Answered}
use Rattle.calls.specs.Outcome.{Outcome, outcomes, store_after}
use Rattle.batch.specs.Batch.{answer_words, block_at, Batch, Lent, begins, kind_of, call_at, turn, turns, count, batch_outcome}

-- the two words of an answer
abbrev pub code_and_key : Outcome → List ℕ
code_and_key o = o.code ∷ o.key ∷ []

-- ---- the calls that a batch makes: k of them from event i on, each with its block of the area as the events before left it
unfoldable pub calls_from : ℕ → Batch → ℕ → ℕ → Lent → List Call
calls_from size batch i zero l = []
calls_from size batch i (suc k) l = call_at size batch i l.area ∷ calls_from size batch (suc i) k (turn size batch i l)

abbrev pub calls_of : ℕ → Batch → Lent → List Call
calls_of size batch l = calls_from size batch 0 (count batch) l

-- the blocks of the area, each as its event leaves it
unfoldable pub blocks_from : ℕ → Batch → ℕ → ℕ → Lent → List (List ℕ)
blocks_from size batch i zero l = []
blocks_from size batch i (suc k) l = block_at size (begins batch i) (turn size batch i l).area ∷ blocks_from size batch (suc i) k (turn size batch i l)

-- is event j an accepted get whose block has one of the n bytes from b on?
abbrev pub fills_into : ℕ → Batch → Lent → ℕ → ℕ → ℕ → Bool
fills_into size batch left b n j =
    (eqb (kind_of batch j) get_kind and eqb (get_or left.answers (answer_words * j) 0) 0) and (ltb (begins batch j) (b + n) and ltb b (begins batch j + size))

-- ---- what a batch leaves, by its calls one after the other
pub record OneByOne (size : ℕ) (batch : Batch) (l left : Lent) : Type 0 where
  -- each byte of the store
  pub store : left.store ≡ store_after l.store (calls_of size batch l)
  -- each code and key, as the call leaves them
  pub answers : left.answers ≡ enc_all code_and_key (outcomes l.store (calls_of size batch l))
  -- each block of the area
  pub blocks : blocks_from size batch 0 (count batch) l ≡ map (λ (o : Outcome). o.area) (outcomes l.store (calls_of size batch l))
  -- bytes of the area that no accepted get fills from event i on are as the events before left them
  pub kept : (i b n : ℕ) → i ≤ count batch → ((j : ℕ) → i ≤ j → j < count batch → fills_into size batch left b n j ≡ false)
      → run b n left.area ≡ run b n (turns size batch i l).area

abbrev pub BatchTheorem : Type 0
BatchTheorem = (batch : Batch) (l : Lent) → Below 256 l.store → (batch_outcome batch l).code ≡ 0
    → OneByOne (decode_bytes l.store).settings.size batch l (batch_outcome batch l).left

-- ---- what its events were answered
-- the bytes that the block of event i has at the end; where a later get has filled over them, those that it had after the event
abbrev pub seen : ℕ → Batch → Lent → ℕ → Lent → List ℕ
seen size batch left i after =
    block_at size (begins batch i)
    (cond (any_below (count batch) (λ j. ltb i j and fills_into size batch left (begins batch i) size j)) after.area left.area)

-- what the events of a batch were answered, k of them from event i on: code and key as the answers have them at the end, and the bytes that were seen
unfoldable pub answered_from : ℕ → Batch → Lent → ℕ → ℕ → Lent → List Answered
answered_from size batch left i zero l = []
answered_from size batch left i (suc k) l =
    record {
      event = event_called size (call_at size batch i l.area);
      code = get_or left.answers (answer_words * i) 0;
      said = record { key = get_or left.answers (answer_words * i + 1) 0; bytes = seen size batch left i (turn size batch i l) };
      found = decode_bytes l.store;
    }
    ∷ answered_from size batch left (suc i) k (turn size batch i l)
