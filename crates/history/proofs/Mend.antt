-- A mended log, over a property of logs.
use mathlib.Core.Path.{◌≡◌}
use mathlib.Core.List.{List, [], ◌∷◌}
use mathlib.Core.Bool.{true, false}
use Prim.Native.Nat.{ℕ, zero, suc}
use lib.Dec.{ltb}
use borrow.Author.Tests.{ltb-true}
use Rattle.lists.specs.Tests.{◌and◌}
use Rattle.lists.proofs.Tests.{either, and_r}
use Rattle.rules.specs.Limits.{buckets}
use Rattle.rules.specs.Numbers.{home_of}
use Rattle.rules.specs.Entries.{Entry}
use Rattle.rules.specs.Chunks.{Chunk, new_chunk, held, bytes_in, append, save_key}
use Rattle.rules.specs.State.{State}
use Rattle.rules.specs.Derived.{members_from, holder, primary_memory}
use Rattle.rules.specs.Upkeep.{of_first_two, mend_key, mend_keys, mend_buckets, mended}
use Rattle.rules.proofs.Derived.{first_holder_held}

-- a property of logs that saving a key keeps, and one more chunk that is held elsewhere, holds of a mended log
module _ (s : State) (x : ℕ) (P : List Chunk → Type 0) (saves : (l : List Chunk) (k : ℕ) → P l → P (save_key l k))
    (adds : (l : List Chunk) (k : ℕ) → held l k ≡ false → held (s.bricks.log (holder s k)) k ≡ true → P l
    → P (append l (new_chunk k true (bytes_in (s.bricks.log (holder s k)) k)))) where
  key_keeps : (l : List Chunk) (k : ℕ) → P l → P (mend_key s x l k)
  unfolding mend_key holder
  key_keeps l k o =
      either P (of_first_two x (members_from s (home_of k)) and ltb 0 (holder s k))
      (λ q. either P (held l k) (λ _. saves l k o) (λ n. adds l k n (first_holder_held s.bricks k _ (ltb-true _ _ (and_r _ _ q))) o)) (λ _. o)

  keys_keep : (es : List Entry) (l : List Chunk) → P l → P (mend_keys s x l es)
  unfolding mend_keys
  keys_keep [] l o = o
  keys_keep (e ∷ es) l o = keys_keep es (mend_key s x l e.key) (key_keeps l e.key o)

  buckets_keep : (n : ℕ) → P (s.bricks.log x) → P (mend_buckets s x n)
  unfolding mend_buckets
  buckets_keep zero o = o
  buckets_keep (suc g) o =
      let t = buckets_keep g o in either P (s.bucket g).ready (λ _. keys_keep (primary_memory (s.bucket g)) _ t) (λ _. t)

  pub mend_keeps : P (s.bricks.log x) → P (mended s x)
  mend_keeps = buckets_keep (buckets s.settings)
