-- An entry that a brick takes.
use Rattle.std.specs.Prelude.{[], ◌∷◌, ◌++◌, ℕ}
use Rattle.lists.specs.Columns.{upd}
use Rattle.rules.specs.Entries.{entry, insert}
use Rattle.rules.specs.State.{State, set_bricks, set_bucket, with_copies, with_buffer}

-- a bucket's copy in the brick's memory takes it
unfoldable pub with_entry : State → ℕ → ℕ → ℕ → ℕ → State
with_entry s g id block key =
    let bucket = s.bucket g in
    set_bucket s g (with_copies bucket (upd bucket.memory id (insert (bucket.memory id) block key)) bucket.disk)

-- the brick's append buffer takes it
unfoldable pub with_waiting : State → ℕ → ℕ → ℕ → State
with_waiting s id block key = set_bricks s (with_buffer s.bricks id (s.bricks.buffer id ++ (entry block key ∷ [])))
