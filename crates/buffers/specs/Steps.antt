-- What a step over a buffer's entries leaves: cited by the contracts of inner functions.
use Rattle.std.specs.Prelude.{◌≡◌, Bool, not, cond, List, ℕ, ◌+◌, ◌*◌, ◌≤◌, eqb, get_or, drop}
use Rattle.std.proofs.Math.Seq.{paste}
use Rattle.rules.specs.Numbers.{bucket_of}
use Rattle.rules.specs.Entries.{entry, is_of_bucket, insert_if_room, drain}
use Rattle.lists.specs.Tests.{only}
use Rattle.lists.specs.Runs.{run, on_run}
use Rattle.tables.specs.Tables.{first_at, Sorted}
use Rattle.codec.specs.Codec.{change}
use Rattle.layout.specs.Layout.{entries_codec}
use Rattle.entries.specs.Entries.{entry_words, entries_words}

-- entry i, where it is not of the bucket, at place o
unfoldable pub sifted : ℕ → ℕ → ℕ → ℕ → List ℕ → List ℕ
sifted count g i o ws =
    cond (eqb (bucket_of count (first_at entry_words ws i)) g) ws (paste ws (1 + o * entry_words) (drop (1 + i * entry_words) ws) entry_words)

pub record SiftStep (count g i o : ℕ) (ws vs : List ℕ) (r : ℕ) : Type 0 where
  pub words : vs ≡ sifted count g i o ws
  pub next : r ≡ cond (eqb (bucket_of count (first_at entry_words ws i)) g) o (o + 1)

-- a row that stays in a buffer: its block is not of the bucket
abbrev pub row_stays : ℕ → ℕ → List ℕ → Bool
row_stays count g r = not (eqb (bucket_of count (get_or r 0 0)) g)

-- ---- entries that move from a buffer into a copy
-- the entry at a word, where it is of the bucket, taken into the copy
unfoldable pub drained_at : ℕ → ℕ → ℕ → ℕ → ℕ → List ℕ → List ℕ
drained_at count g at copy most ws =
    let e = entry (get_or ws at 0) (get_or ws (at + 1) 0) in
    cond (eqb (bucket_of count e.block) g) (on_run copy (entries_words most) (change (entries_codec most) (λ l. insert_if_room most l e)) ws) ws

-- the words when the bucket's entries of the buffer have moved into the copy
abbrev pub drained_words : ℕ → ℕ → ℕ → ℕ → ℕ → ℕ → List ℕ → List ℕ
drained_words count g buffer waiting copy most ws =
    let mine = only (is_of_bucket count g) ((entries_codec waiting).dec (run buffer (entries_words waiting) ws)) in
    on_run copy (entries_words most) (change (entries_codec most) (λ l. drain most l mine)) ws

-- a buffer lies before a sorted copy
pub record Drains (buffer waiting copy most : ℕ) (ws : List ℕ) (len : ℕ) : Type 0 where
  pub apart : buffer + entries_words waiting ≤ copy
  pub room : 8 * (copy + entries_words most) ≤ len
  pub few : get_or ws buffer 0 ≤ waiting
  pub sorted : Sorted entry_words most (run copy (entries_words most) ws) (8 * entries_words most)
