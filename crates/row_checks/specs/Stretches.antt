-- What holds of stretches of rows of a table: blocks of one run.
use Rattle.std.specs.Prelude.{◌≡◌, List, true, ℕ, suc, ◌+◌, ◌*◌, ◌≤◌, ◌<◌, get_or}
use Rattle.row_checks.specs.Rows.{key_below}

-- block and key of row i of a table
abbrev pub block_at : List ℕ → ℕ → ℕ
block_at ws i = get_or ws (1 + 2 * i) 0

abbrev pub entry_key_at : List ℕ → ℕ → ℕ
entry_key_at ws i = get_or ws (2 + 2 * i) 0

-- row i has this block, below the next, and a key below its bound
pub record RowUnder (bounds ws : List ℕ) (i next block : ℕ) : Type 0 where
  pub here : block ≡ block_at ws i
  pub below : block < next
  pub key : key_below bounds (entry_key_at ws i) ≡ true

-- from the block of row i down to that of row r blocks descend and stay above the floor, and the rows from r to below i have keys below their bounds
pub record Stretch (bounds ws : List ℕ) (floor i r block : ℕ) : Type 0 where
  pub inside : r ≤ i
  pub here : block ≡ block_at ws r
  pub under : block ≤ block_at ws i
  pub rises : (k : ℕ) → r ≤ k → k < i → block_at ws k < block_at ws (suc k)
  pub range : (k : ℕ) → r ≤ k → k < i → (floor < block_at ws k) × (block_at ws k ≤ block_at ws i)
  pub keys : (k : ℕ) → r ≤ k → k < i → key_below bounds (entry_key_at ws k) ≡ true
