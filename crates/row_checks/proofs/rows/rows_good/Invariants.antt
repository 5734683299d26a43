use mathlib.Core.Path.{◌≡◌}
use Prim.Native.Nat.{◌≤◌}
use Rattle.rules.specs.Numbers.{block_count}
use Rattle.words.specs.Words.{words}
use Rattle.row_checks.specs.Rows.{key_below}
use Rattle.row_checks.proofs.RowLaws.{rows_under}
use Rattle.row_checks.proofs.rows.rows_good.Given as goal

abbrev pub invariant-loop-i : goal.invariant-loop-i
invariant-loop-i l =
    let under = rows_under l.settings (key_below l.bounds) l.whose (words l.table) in (l.i ≤ l.n) × (l.ceiling ≤ block_count) × (under block_count l.n ≡ under l.ceiling l.i)

abbrev pub decreases-loop-i : goal.decreases-loop-i
decreases-loop-i l = l.i
