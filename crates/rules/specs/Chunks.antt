-- Chunk logs, in arrival order.
use Rattle.std.specs.Prelude.{List, [], ◌∷◌, ◌++◌, map, Bool, true, cond, ℕ, eqb}
use Rattle.lists.specs.Tests.{◌and◌, ◌or◌, any, only}

-- each chunk is saved or unsaved
pub record Chunk : Type 0 where
  pub key : ℕ
  pub saved : Bool
  pub bytes : List ℕ

abbrev pub new_chunk : ℕ → Bool → List ℕ → Chunk
new_chunk key saved bytes = record { key = key; saved = saved; bytes = bytes }

unfoldable pub held : List Chunk → ℕ → Bool
held log key = any (λ c. eqb key c.key) log

unfoldable pub saved_in : List Chunk → ℕ → Bool
saved_in log key = any (λ c. eqb key c.key and c.saved) log

-- the bytes of the chunk with the key
unfoldable pub bytes_in : List Chunk → ℕ → List ℕ
bytes_in [] key = []
bytes_in (chunk ∷ rest) key = cond (eqb key chunk.key) chunk.bytes (bytes_in rest key)

-- one more chunk
abbrev pub append : List Chunk → Chunk → List Chunk
append log chunk = log ++ (chunk ∷ [])

-- the chunks that a test of the key picks become saved
abbrev pub save : (ℕ → Bool) → Chunk → Chunk
save test old = new_chunk old.key (test old.key or old.saved) old.bytes

unfoldable pub save_all : List Chunk → List Chunk
save_all log = map (save (λ k. true)) log

unfoldable pub save_key : List Chunk → ℕ → List Chunk
save_key log key = map (save (eqb key)) log

unfoldable pub only_saved : List Chunk → List Chunk
only_saved log = only (λ c. c.saved) log

unfoldable pub only_named : (ℕ → Bool) → List Chunk → List Chunk
only_named named log = only (λ c. named c.key) log
