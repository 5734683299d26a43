-- What the functions on a table of any width need and leave.
use Rattle.std.specs.Prelude.{◌≡◌, Bool, List, [], ◌∷◌, ◌++◌, ℕ, suc, ◌+◌, ◌*◌, ◌≤◌, ◌<◌, eqb, get_or, take, drop, set}
use Rattle.lists.specs.Tests.{◌and◌, all_below, only}
use Rattle.lists.specs.Runs.{run, on_run}
use Rattle.lists.specs.Ascending.{FirstNotBelow}
use Rattle.lists.specs.Rows.{over_rows, table_words, table_dec, table_enc, row_words}

-- a table's words with its rows changed
abbrev pub change_table : ℕ → (List (List ℕ) → List (List ℕ)) → List ℕ → List ℕ
change_table width f ws = table_enc width row_words (f (table_dec width row_words ws)) ws

-- one row more before index p, and row p gone
abbrev pub insert_at : {A : Type 0} → ℕ → A → List A → List A
insert_at p x l = take p l ++ x ∷ drop p l

abbrev pub without_index : {A : Type 0} → ℕ → List A → List A
without_index p l = take p l ++ drop (suc p) l

-- the table at word `from`, its count and its rows in use, over the one at word `to`
abbrev pub copied : ℕ → ℕ → ℕ → ℕ → List ℕ → List ℕ
copied width most from to ws =
    on_run to (table_words width most) (table_enc width row_words (table_dec width row_words (run from (table_words width most) ws))) ws

-- word j of row i, and the rows with another there
abbrev pub cell_at : ℕ → ℕ → List (List ℕ) → ℕ
cell_at i j l = get_or (get_or l i []) j 0

abbrev pub set_cell : ℕ → ℕ → ℕ → List (List ℕ) → List (List ℕ)
set_cell i j v l = set l i (set (get_or l i []) j v)

-- a table while it is gone through for the rows that a test keeps: those of the first i stand in front
abbrev pub kept_rows : ℕ → (List ℕ → Bool) → ℕ → List ℕ → List (List ℕ)
kept_rows width test i ws = only test (take i (table_dec width row_words ws))

unfoldable pub sifting : ℕ → (List ℕ → Bool) → ℕ → List ℕ → List ℕ
sifting width test i ws = get_or ws 0 0 ∷ over_rows width row_words (kept_rows width test i ws) (drop 1 ws)

-- ---- by the first word of each row
abbrev pub first_at : ℕ → List ℕ → ℕ → ℕ
first_at width ws i = get_or ws (1 + i * width) 0

-- two tables with the same rows
abbrev pub same_at : List ℕ → List ℕ → ℕ → Bool
same_at ws vs i = eqb (get_or ws (1 + i) 0) (get_or vs (1 + i) 0)

unfoldable pub same_rows : ℕ → List ℕ → List ℕ → Bool
same_rows width ws vs = eqb (get_or ws 0 0) (get_or vs 0 0) and all_below (get_or ws 0 0 * width) (same_at ws vs)

-- ---- what the functions on a table need and say
-- len bytes with the words ws are a table of at most so many rows
pub record IsTable (width most : ℕ) (ws : List ℕ) (len : ℕ) : Type 0 where
  pub few : get_or ws 0 0 ≤ most
  pub size : len ≡ 8 * table_words width most

-- two tables lie in len bytes with the words ws, and the first is one
pub record TwoTables (width most from to : ℕ) (ws : List ℕ) (len : ℕ) : Type 0 where
  pub first_in : 8 * (from + table_words width most) ≤ len
  pub second_in : 8 * (to + table_words width most) ≤ len
  pub few : get_or ws from 0 ≤ most

-- and its rows are sorted by their first words
pub record Sorted (width most : ℕ) (ws : List ℕ) (len : ℕ) : Type 0 where
  pub few : get_or ws 0 0 ≤ most
  pub size : len ≡ 8 * table_words width most
  pub wide : 1 ≤ width
  pub rising : (i j : ℕ) → i < j → j < get_or ws 0 0 → first_at width ws i < first_at width ws j

-- the rows before index p begin below x, and those from it on do not
abbrev pub RowsBelow : ℕ → List ℕ → ℕ → ℕ → Type 0
RowsBelow width ws x p = (j : ℕ) → j < p → first_at width ws j < x

abbrev pub RowsFrom : ℕ → List ℕ → ℕ → ℕ → Type 0
RowsFrom width ws x p = (j : ℕ) → p ≤ j → j < get_or ws 0 0 → x ≤ first_at width ws j

-- r is the first index whose row does not begin below x
abbrev pub LowerBound : ℕ → List ℕ → ℕ → ℕ → Type 0
LowerBound width ws x r = FirstNotBelow (first_at width ws) (get_or ws 0 0) x r

pub record HereAt (width : ℕ) (ws : List ℕ) (x p : ℕ) : Type 0 where
  pub in_use : p < get_or ws 0 0
  pub same : first_at width ws p ≡ x
  pub bound : LowerBound width ws x p

pub record GapAt (width : ℕ) (ws : List ℕ) (x p : ℕ) : Type 0 where
  pub bound : LowerBound width ws x p
  pub other : p < get_or ws 0 0 → first_at width ws p ≡ x → ⊥
