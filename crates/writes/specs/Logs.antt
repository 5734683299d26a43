-- A chunk comes into a log.
use Rattle.std.specs.Prelude.{◌≡◌, List, false, ℕ, length}
use Rattle.rules.specs.declared.settings.Settings.{Settings}
use Rattle.rules.specs.Chunks.{Chunk, new_chunk, append}
use Rattle.transfer.specs.Brings.{LogRoom}

-- one unsaved chunk more
abbrev pub with_chunk : ℕ → List ℕ → List Chunk → List Chunk
with_chunk key bytes log = append log (new_chunk key false bytes)

-- len bytes, with the words w, are a place whose log has room for the chunk
pub record AppendFits (c : Settings) (w : List ℕ) (len : ℕ) (bytes : List ℕ) : Type 0 where
  pub log : LogRoom c w len
  pub whole : length bytes ≡ c.size
