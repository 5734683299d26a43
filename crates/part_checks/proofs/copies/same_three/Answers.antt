use mathlib.Core.Path.{◌≡◌, ◌∙◌}
use mathlib.Core.List.{List}
use mathlib.Core.Bool.{Bool}
use Prim.Native.Nat.{ℕ, ◌*◌, ◌≤◌}
use native.Mathlib.Omega.{arith}
use lib.Dec.{eqb}
use lib.ListN.{length, get_or}
use Rattle.lists.specs.Tests.{◌and◌, all_below}
use Rattle.words.specs.Words.{words}
use Rattle.words.proofs.Laws.{length_words}
use Rattle.rules.specs.Sound.{same_entries}
use Rattle.lists.specs.Rows.{table_words}
use Rattle.tables.specs.Tables.{same_at, same_rows}
use Rattle.entries.proofs.Words.{same_is_rows}
use Rattle.layout.specs.Layout.{entries_codec}
use Rattle.part_checks.proofs.copies.same_three.Goals as goal

-- as many rows, and the same words in them: the same entries
rows_same : (most : ℕ) (ws vs : List ℕ) → length ws ≡ table_words 2 most → length vs ≡ table_words 2 most → get_or ws 0 0 ≤ most → get_or vs 0 0 ≤ most
    → (n m : ℕ) (b : Bool) → n ≡ get_or ws 0 0 → m ≡ get_or vs 0 0 → b ≡ all_below (n * 2) (same_at ws vs)
    → (eqb n m and b) ≡ same_entries ((entries_codec most).dec ws) ((entries_codec most).dec vs)
unfolding same_rows
rows_same most ws vs hl hv few fewv n m b en em eb = rw (eb, en, em) (same_is_rows most ws vs hl hv few fewv)

-- src/copies.rt:50:1
pub returns : goal.returns
unfolding ◌and◌
returns c =
    let a = c.args in
    let words_of : ((x : List ℕ) → length x ≡ 8 * table_words 2 a.most → length (words x) ≡ table_words 2 a.most) = λ x h. length_words x ∙ omega arith in
    let one = words_of a.one.now c.requires.table.size in
    let n = c.read-n in
    let same = c.compare_words-same.ensures in record {
      known_value = rows_same a.most _ _ one (words_of a.second.now c.requires.table_2.size) c.requires.table.few c.requires.table_2.few _ _ _ n.ensures
          c.read-second_rows.ensures same.known_value;
      saved_value = rows_same a.most _ _ one (words_of a.third.now c.requires.table_3.size) c.requires.table.few c.requires.table_3.few _ _ _ n.ensures
          c.read-third_rows.ensures same.saved_value;
    }
