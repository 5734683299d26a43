-- A chunk goes from the log of the brick at one place to that of the brick at another.
use Rattle.std.specs.Prelude.{Bool, List, ℕ, ◌+◌, ◌*◌, ◌/◌, ◌<◌, length, get_or}
use Rattle.lists.specs.Runs.{run}
use Rattle.words.specs.Words.{words}
use Rattle.rules.specs.declared.settings.Settings.{Settings}
use Rattle.rules.specs.Chunks.{Chunk, new_chunk, append, bytes_in}
use Rattle.rules.specs.State.{State}
use Rattle.chunk_log.specs.Answers.{FoundAt}
use Rattle.layout.specs.Layout.{word_bytes, log_words, log_at}
use Rattle.layout.specs.Store.{decode}
use Rattle.lent.specs.Stores.{StoreOf}
use Rattle.lent.specs.Places.{PlaceLog, log_from, with_chunks}

-- the log of the brick at a place
abbrev pub log_at_place : State → ℕ → List Chunk
log_at_place s place = s.bricks.log (s.ids place)

-- the brick at one place gets the chunk that the one at another holds, after its other chunks
abbrev pub brought : State → ℕ → ℕ → ℕ → Bool → State
brought s from to key saved =
    with_chunks s (s.ids to) (append (log_at_place s to) (new_chunk key saved (bytes_in (log_at_place s from) key)))

-- ---- what the steps ask and say
-- the brick at one place holds the chunk in this row, and the log of the one at the other has room
pub record Brings (c : Settings) (bs : List ℕ) (from row to key : ℕ) : Type 0 where
  pub store : StoreOf c bs
  pub from_in : from < c.places
  pub from_filled : 0 < (decode (words bs)).ids from
  pub found : FoundAt (log_at_place (decode (words bs)) from) key row
  pub to_in : to < c.places
  pub to_filled : 0 < (decode (words bs)).ids to
  pub room : length (log_at_place (decode (words bs)) to) < c.chunks

-- the word of the store at which the cell of a row of a place's log begins
abbrev pub cell_at : Settings → ℕ → ℕ → ℕ
cell_at c place row = log_from c place + (1 + 3 * c.chunks + row * (c.size / word_bytes))

-- len bytes, with the words w, are a place whose log has room for a chunk
pub record LogRoom (c : Settings) (w : List ℕ) (len : ℕ) : Type 0 where
  pub place : PlaceLog c w len
  pub room : get_or (run (log_at c) (log_words c) w) 0 0 < c.chunks
