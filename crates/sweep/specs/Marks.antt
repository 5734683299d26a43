-- Marks, and what a sweep leaves of a marked log.
use Rattle.std.specs.Prelude.{Bool, cond, List, map, ℕ, ◌+◌, ◌%◌}
use Rattle.chunk_log.specs.Log.{Stored, write_log, read_log}
use Rattle.chunk_log.specs.Steps.{with_saved}
use Rattle.sweep.specs.Sweep.{plain, kept_chunks}

-- a chunk that stays
abbrev pub with_mark : Stored → Stored
with_mark x = with_saved (x.saved % 2 + 2) x

-- a log's words with a mark on each chunk that a test picks
abbrev pub mark : (Stored → Bool) → Stored → Stored
mark test x = cond (test x) (with_mark x) x

unfoldable pub with_marks : ℕ → ℕ → (Stored → Bool) → List ℕ → List ℕ
with_marks chunks width test ws = write_log chunks (map (mark test) (read_log chunks width ws)) ws

-- the chunks without a mark gone, and all marks off
unfoldable pub swept : ℕ → ℕ → List ℕ → List ℕ
swept chunks width ws = let xs = read_log chunks width ws in write_log chunks (kept_chunks xs) (write_log chunks (map plain xs) ws)
