-- Words that hold a table of entries: what the functions on tables ask of it.
use mathlib.Core.Path.{◌≡◌, ap, ◌∙◌}
use mathlib.Core.List.{List}
use mathlib.Core.Bool.{true}
use Prim.Native.Nat.{ℕ, ◌*◌, ◌≤◌}
use native.Mathlib.Omega.{arith}
use lib.ListN.{length, get_or, drop}
use Rattle.lists.specs.Rows.{table_dec}
use Rattle.lists.proofs.Rows.{length_rows}
use Rattle.rules.specs.Entries.{Entry, ascending}
use Rattle.tables.specs.Tables.{IsTable, Sorted}
use Rattle.codec.specs.Codec.{Row, table}
use Rattle.layout.specs.Contents.{entry_row}
use Rattle.layout.specs.Layout.{entries_codec}
use Rattle.entries.specs.Entries.{entry_words, entries_words}
use Rattle.entries.proofs.Words.{sorted_of}

-- a table's count is the number of its rows
pub count_is : {A : Type 0} (r : Row A) (most : ℕ) (w : List ℕ) → length ((table most r).dec w) ≡ get_or w 0 0
unfolding table_dec
count_is r most w = length_rows r.size r.read (get_or w 0 0) (drop 1 w)

-- words that hold at most so many rows
module _ {A : Type 0} (r : Row A) (most : ℕ) (l : List A) (few : length l ≤ most) (w : List ℕ) (e : (table most r).dec w ≡ l) where
  pub few_of : get_or w 0 0 ≤ most
  few_of = let n = count_is r most w in let m = ap length e in omega arith

  pub is_table : (len : ℕ) → len ≡ 8 * (table most r).size → IsTable r.size most w len
  is_table len ll = record { few = few_of; size = ll }

-- words that hold entries by ascending blocks are sorted
pub sorted_table : (most : ℕ) (l : List Entry) → length l ≤ most → ascending 0 l ≡ true → (w : List ℕ) (len : ℕ) → length w ≡ entries_words most
    → len ≡ 8 * entries_words most → (entries_codec most).dec w ≡ l → Sorted entry_words most w len
sorted_table most l few up w len lw ll e = sorted_of most w len lw ll (few_of entry_row most l few w e) (ap (ascending 0) e ∙ up)
