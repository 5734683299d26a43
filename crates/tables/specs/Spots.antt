-- What a look-up in a sorted table answers: the index of the row, or the one before which it would go.
use Rattle.std.specs.Prelude.{List, ℕ, Result, Ok, Err}
use Rattle.tables.specs.Tables.{HereAt, GapAt}

abbrev pub SpotOf : ℕ → List ℕ → ℕ → Result ℕ ℕ → Type 0
SpotOf width ws x (Ok p) = HereAt width ws x p
SpotOf width ws x (Err p) = GapAt width ws x p
