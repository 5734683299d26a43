-- Demand 3 of requests: each is a call, a batch of events, or a read of many blocks. What they are answered is what calls are answered.
use Rattle.std.specs.Prelude.{◌≡◌, List, [], ◌∷◌, ◌++◌, true, cond, ℕ, eqb, length}
use Rattle.lists.specs.Runs.{Below}
use Rattle.rules.specs.declared.settings.Settings.{Settings}
use Rattle.rules.specs.Event.{Event}
use Rattle.rules.specs.Call.{Call}
use Rattle.rules.specs.Step.{only_key}
use Rattle.layout.specs.Store.{decode_bytes, sound_bytes}
use Rattle.history.specs.Claim.{Answered, Claimed}
use Rattle.store.specs.Calls.{may_format, Formatted}
use Rattle.calls.specs.Outcome.{outcome}
use Rattle.calls.specs.Claim.{answered_calls, NeverTwo}
use Rattle.batch.specs.Batch.{Batch, lent, is_batch, count, batch_outcome}
use Rattle.batch.specs.Claim.{calls_of, answered_from}
use Rattle.read_many.specs.Read.{fits, read_outcome}
use Rattle.read_many.specs.Claim.{gets_of, answered_blocks}

pub data Request : Type 0 where
  single : Call → Request
  -- a batch, with the area and the answers that it lends
  several : Batch → List ℕ → List ℕ → Request
  -- a read of blocks of a proxy, with the answers that it lends
  blocks : ℕ → List ℕ → List ℕ → Request

-- ---- what requests are answered
-- that the store is not sound
abbrev pub answered_unsound : List ℕ → Answered
answered_unsound bs = record { event = Event.unknown; code = 2; said = only_key 0; found = decode_bytes bs }

-- by the code of a batch or a read: what its events were answered; refused with 3 it was answered nothing of any block
unfoldable pub answered_by : ℕ → List ℕ → List Answered → List Answered
answered_by code bs ts = cond (eqb code 0) ts (cond (eqb code 2) (answered_unsound bs ∷ []) [])

-- a list of requests, each on the store as the last left it
unfoldable pub answered_requests : ℕ → List ℕ → List Request → List Answered
answered_requests size bs [] = []
answered_requests size bs (Request.single call ∷ requests) = answered_calls size bs (call ∷ []) ++ answered_requests size (outcome bs call).store requests
answered_requests size bs (Request.several batch area answers ∷ requests) =
    let r = batch_outcome batch (lent bs area answers) in
    answered_by r.code bs (answered_from size batch r.left 0 (count batch) (lent bs area answers)) ++ answered_requests size r.left.store requests
answered_requests size bs (Request.blocks proxy numbers answers ∷ requests) =
    let r = read_outcome bs proxy numbers answers in
    answered_by r.code bs (answered_blocks size bs proxy numbers r.left) ++ answered_requests size bs requests

-- ---- the calls that they make: a batch its events, a read its gets; refused with 3, none
unfoldable pub calls_made : ℕ → List ℕ → List Request → List Call
calls_made size bs [] = []
calls_made size bs (Request.single call ∷ requests) = call ∷ calls_made size (outcome bs call).store requests
calls_made size bs (Request.several batch area answers ∷ requests) =
    let l = lent bs area answers in
    cond (is_batch batch l) (calls_of size batch l) [] ++ calls_made size (batch_outcome batch l).left.store requests
calls_made size bs (Request.blocks proxy numbers answers ∷ requests) =
    cond (fits size (length numbers) (length answers)) (gets_of size proxy numbers) [] ++ calls_made size bs requests

-- on a sound store a list of requests is answered as the list of its calls
abbrev pub AsCalls : Type 0
AsCalls = (bs : List ℕ) → Below 256 bs → sound_bytes bs ≡ true → (requests : List Request) →
    let size = (decode_bytes bs).settings.size in
    answered_requests size bs requests ≡ answered_calls size bs (calls_made size bs requests)

-- ---- so the claims hold of it: ageing, for want, and two saved copies
-- format any lent bytes with any settings that question 1 passes; then take any list of requests, of all kinds of events, any order, refused ones included,
-- each with any numbers, any bytes and areas of any lengths
abbrev pub RequestsClaim : Type 0
RequestsClaim = (c : Settings) (lent : List ℕ) → Below 256 lent → may_format c lent ≡ true →
    (code : ℕ) (store : List ℕ) → Formatted c lent code store → (requests : List Request) →
    let ts = answered_requests c.size store requests in
    Claimed c.size ts × NeverTwo ts
