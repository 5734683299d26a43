-- Questions of send, in groups.
use Rattle.std.specs.Prelude.{List, [], ◌∷◌, ℕ, ltb, length}
use Rattle.rules.specs.Limits.{max_relays, max_view_or_order}
use Rattle.rules.specs.Entries.{has}
use Rattle.rules.specs.State.{State}
use Rattle.rules.specs.Derived.{bucket_at, primary_memory}
use Rattle.rules.specs.Question.{Question, ◌asks◌, is_block, primary_up, is_ready}

-- is there such a block, is the primary an up member, and is the bucket ready?
abbrev pub primary_asks : State → ℕ → List Question
primary_asks s block = (3 asks is_block block) ∷ (6 asks primary_up s block) ∷ (7 asks is_ready s block) ∷ []

-- is there room in the bag, is an order number left, and is the block mapped?
abbrev pub room_asks : State → ℕ → List Question
room_asks s block =
    (10 asks ltb (length s.bag) max_relays)
    ∷ (12 asks ltb (bucket_at s block).last_sent max_view_or_order)
    ∷ (13 asks has (primary_memory (bucket_at s block)) block)
    ∷ []
