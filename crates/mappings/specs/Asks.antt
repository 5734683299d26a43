-- Questions that several events ask of a block, in groups.
use Rattle.std.specs.Prelude.{List, [], ◌∷◌, ◌++◌, ℕ}
use Rattle.rules.specs.State.{State}
use Rattle.rules.specs.Question.{Question, ◌asks◌, knows_view, primary_up, is_ready, not_pending, not_waiting}
use Rattle.lent.specs.Asks.{block_asks}

-- is it the proxy's block, does the proxy know the view, and is the primary an up member?
abbrev pub access_asks : State → ℕ → ℕ → List Question
access_asks s proxy block = block_asks proxy block ++ ((5 asks knows_view s proxy) ∷ (6 asks primary_up s block) ∷ [])

-- is the block neither pending nor in the primary's append buffer?
abbrev pub settled_asks : State → ℕ → List Question
settled_asks s block = (8 asks not_pending s block) ∷ (8 asks not_waiting s block) ∷ []

-- access, the bucket ready, and the block settled
abbrev pub served_asks : State → ℕ → ℕ → List Question
served_asks s proxy block = access_asks s proxy block ++ ((7 asks is_ready s block) ∷ settled_asks s block)
