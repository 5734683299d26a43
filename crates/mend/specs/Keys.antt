-- The keys that mend goes through, bucket by bucket, and how many chunks it adds.
use Rattle.std.specs.Prelude.{List, Bool, not, ℕ, zero, suc, ◌+◌, ltb, length, take}
use Rattle.lists.specs.Tests.{◌and◌, ◌or◌, any_below, count_below}
use Rattle.rules.specs.Numbers.{home_of}
use Rattle.rules.specs.Entries.{names}
use Rattle.rules.specs.Chunks.{Chunk, held}
use Rattle.rules.specs.State.{State}
use Rattle.rules.specs.Derived.{members_from, holder}
use Rattle.rules.specs.Upkeep.{of_first_two, mend_keys, mend_buckets}
use Rattle.entries.specs.Entries.{entry_at}
use Rattle.named.specs.Tables.{named}

abbrev pub key_at : State → ℕ → ℕ → ℕ
key_at s g i = (entry_at (named s g) i).key

-- the log after the first g buckets and i entries of the next one
abbrev pub mended_to : State → ℕ → ℕ → ℕ → List Chunk
mended_to s id g i = mend_keys s id (mend_buckets s id g) (take i (named s g))

-- is the key named before entry i of bucket g?
unfoldable pub before : State → ℕ → ℕ → ℕ → Bool
before s g i key = any_below g (λ h. names (named s h) key) or names (take i (named s g)) key

-- does the place get the key's chunk saved, and is that a chunk more?
unfoldable pub wants : State → ℕ → ℕ → Bool
wants s id key = of_first_two id (members_from s (home_of key)) and ltb 0 (holder s key)

unfoldable pub lacks : State → ℕ → ℕ → Bool
lacks s id key = wants s id key and not (held (s.bricks.log id) key)

-- a chunk is added where its key is named first
unfoldable pub adds : State → ℕ → ℕ → ℕ → Bool
adds s id g i = lacks s id (key_at s g i) and not (before s g i (key_at s g i))

-- so many entries of the first n buckets meet a test
unfoldable pub counted : State → (ℕ → ℕ → Bool) → ℕ → ℕ
counted s test zero = 0
counted s test (suc g) = count_below (length (named s g)) (test g) + counted s test g

-- so many are added by the first i entries of a bucket, and by the first n buckets
abbrev pub added_in : State → ℕ → ℕ → ℕ → ℕ
added_in s id g i = count_below i (adds s id g)

abbrev pub added : State → ℕ → ℕ → ℕ
added s id n = counted s (adds s id) n

-- ---- part by part: each part has so many rows of every log
abbrev pub part_rows : ℕ
part_rows = 4096

-- does the chunk lie in a row below this one?
unfoldable pub lies_below : State → ℕ → ℕ → Bool
lies_below s row key = held (take row (s.bricks.log (holder s key))) key

-- in the part from row `base` on, or beyond it?
unfoldable pub in_part : State → ℕ → ℕ → Bool
in_part s base key = not (lies_below s base key) and lies_below s (base + part_rows) key

unfoldable pub beyond_part : State → ℕ → ℕ → Bool
beyond_part s base key = not (lies_below s (base + part_rows) key)

-- an entry adds a chunk in a row below this one; it adds one of the part; it names a lacking one beyond the part
unfoldable pub adds_below : State → ℕ → ℕ → ℕ → ℕ → Bool
adds_below s id row g i = adds s id g i and lies_below s row (key_at s g i)

unfoldable pub adds_inside : State → ℕ → ℕ → ℕ → ℕ → Bool
adds_inside s id base g i = adds s id g i and in_part s base (key_at s g i)

unfoldable pub lacks_beyond : State → ℕ → ℕ → ℕ → ℕ → Bool
lacks_beyond s id base g i = lacks s id (key_at s g i) and beyond_part s base (key_at s g i)
