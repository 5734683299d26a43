-- How the check tests keys, entries and tables: with a bound for each id, and row by row.
use Rattle.std.specs.Prelude.{◌≡◌, List, [], ◌∷◌, Bool, true, ℕ, suc, ◌+◌, ◌*◌, ◌≤◌, ltb, leb, get_or, drop}
use Rattle.lists.specs.Tests.{◌and◌}
use Rattle.lists.specs.Rows.{rows}
use Rattle.rules.specs.declared.settings.Settings.{Settings}
use Rattle.rules.specs.Limits.{max_id, max_entries}
use Rattle.rules.specs.Numbers.{block_count, home_of, sequence_of}
use Rattle.rules.specs.Entries.{Entry}
use Rattle.rules.specs.Question.{belongs as of_proxy}
use Rattle.rules.specs.Sound.{sound_entry, sound_entries, sound_table, anyone, in_bucket}
use Rattle.layout.specs.Contents.{entry_row}
use Rattle.row_checks.specs.declared.rows.Whose.{Whose}
use Rattle.row_checks.specs.declared.rows.Whose.TheVariants.{Bucket, Proxy, Anyone}

-- a bound for each id, and for 0
abbrev pub ids : ℕ
ids = suc max_id

-- the key's sequence number is below the bound of its home
unfoldable pub key_below : List ℕ → ℕ → Bool
key_below bounds k = ltb (sequence_of k) (get_or bounds (home_of k) 0)

unfoldable pub belongs_to : Settings → Whose → ℕ → Bool
belongs_to c (Bucket g) b = in_bucket c g b
belongs_to c (Proxy p) b = of_proxy p b
belongs_to c Anyone b = anyone b

-- the rules' test of a table with these blocks
abbrev pub table_sound : Settings → (ℕ → Bool) → Whose → ℕ → List Entry → Bool
table_sound c keys (Bucket g) most l = sound_table keys (in_bucket c g) most l
table_sound c keys (Proxy p) most l = sound_table keys (of_proxy p) most l
table_sound c keys Anyone most l = sound_entries keys anyone most l

-- blocks of a bucket's or a proxy's table ascend
unfoldable pub floor_after : Whose → ℕ → ℕ
floor_after (Bucket g) b = suc b
floor_after (Proxy p) b = suc b
floor_after Anyone b = 0

-- the block before a block is below this
unfoldable pub ceiling_below : Whose → ℕ → ℕ
ceiling_below (Bucket g) b = b
ceiling_below (Proxy p) b = b
ceiling_below Anyone b = block_count

-- an entry whose block is in range
unfoldable pub entry_fits : Settings → (ℕ → Bool) → Whose → Entry → Bool
entry_fits c good whose e = belongs_to c whose e.block and good e.key

-- the rows from the first to the last, each block at or above a floor
unfoldable pub rows_good : Settings → (ℕ → Bool) → Whose → ℕ → List Entry → Bool
rows_good c good whose floor [] = true
rows_good c good whose floor (e ∷ l) =
    leb floor e.block and sound_entry good (belongs_to c whose) e and rows_good c good whose (floor_after whose e.block) l

-- a bound for each id, and n rows in so many bytes
pub record RowsFit (bounds bytes n : ℕ) : Type 0 where
  pub known : bounds ≡ ids
  pub room : 8 * (1 + 2 * n) ≤ bytes

-- the first n entries of a table
abbrev pub first_entries : ℕ → List ℕ → List Entry
first_entries n ws = rows entry_row.size entry_row.read n (drop 1 ws)

pub record TableFit (bounds bytes most : ℕ) : Type 0 where
  pub known : bounds ≡ ids
  pub size : bytes ≡ 8 * (1 + 2 * most)
  pub few : most ≤ max_entries
