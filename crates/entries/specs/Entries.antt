-- Entries in words: a table whose rows are (block, key). Bucket copies and items are sorted by block; an append buffer is in arrival order.
use Rattle.std.specs.Prelude.{List, ℕ, get_or}
use Rattle.lists.specs.Runs.{run, on_run}
use Rattle.lists.specs.Rows.{table_words}
use Rattle.rules.specs.Entries.{Entry, entry}
use Rattle.layout.specs.Contents.{entry_row}
use Rattle.layout.specs.Layout.{entries_codec}

-- words in a row, and in a table of at most so many entries
abbrev pub entry_words : ℕ
entry_words = entry_row.size

abbrev pub entries_words : ℕ → ℕ
entries_words most = table_words entry_words most

abbrev pub entry_at : List Entry → ℕ → Entry
entry_at l i = get_or l i (entry 0 0)

-- the table at word `from` over the one at word `to`
abbrev pub copied_entries : ℕ → ℕ → ℕ → List ℕ → List ℕ
copied_entries most from to ws =
    let c = entries_codec most in on_run to c.size (c.enc (c.dec (run from c.size ws))) ws
