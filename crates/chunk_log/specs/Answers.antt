-- What look-up answers.
use Rattle.std.specs.Prelude.{◌≡◌, false, List, ℕ, ◌<◌, length, Option, Some, None}
use Rattle.rules.specs.Chunks.{Chunk, held}
use Rattle.chunk_log.specs.Log.{chunk_at}

-- the chunk at index p has the key
pub record FoundAt (cs : List Chunk) (k p : ℕ) : Type 0 where
  pub in_use : p < length cs
  pub same : (chunk_at cs p).key ≡ k

abbrev pub FoundIn : List Chunk → ℕ → Option ℕ → Type 0
FoundIn cs k (Some p) = FoundAt cs k p
FoundIn cs k None = held cs k ≡ false
