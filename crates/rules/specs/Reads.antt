-- get.
use Rattle.std.specs.Prelude.{List, [], ◌∷◌, cond, ℕ, ltb, eqb, replicate}
use Rattle.lists.specs.Tests.{◌or◌}
use Rattle.rules.specs.Entries.{key_for}
use Rattle.rules.specs.Chunks.{bytes_in}
use Rattle.rules.specs.State.{State}
use Rattle.rules.specs.Derived.{holder, bucket_at, primary_memory}
use Rattle.rules.specs.Question.{Question, ◌asks◌, is_proxy, is_block, belongs, knows_view, primary_up, is_ready, not_pending, not_waiting}

-- the block's key in the primary's memory
abbrev pub mapped : State → ℕ → ℕ
mapped s block = key_for (primary_memory (bucket_at s block)) block

-- ---- get,proxy,block: key and bytes; key 0 and zeros if unmapped
abbrev pub get_asks : State → ℕ → ℕ → List Question
get_asks s proxy block =
    (3 asks is_proxy proxy)
    ∷ (3 asks is_block block)
    ∷ (4 asks belongs proxy block)
    ∷ (5 asks knows_view s proxy)
    ∷ (6 asks primary_up s block)
    ∷ (7 asks is_ready s block)
    ∷ (8 asks not_pending s block)
    ∷ (8 asks not_waiting s block)
    ∷ (11 asks eqb (mapped s block) 0 or ltb 0 (holder s (mapped s block)))
    ∷ []

unfoldable pub zeros : ℕ → List ℕ
zeros size = replicate size 0

unfoldable pub get_bytes : State → ℕ → List ℕ
get_bytes s block = let key = mapped s block in cond (eqb key 0) (zeros s.settings.size) (bytes_in (s.bricks.log (holder s key)) key)
