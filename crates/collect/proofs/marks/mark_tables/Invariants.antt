use mathlib.Core.Path.{◌≡◌}
use lib.ListN.{length}
use Rattle.words.specs.Words.{words}
use Rattle.collect.specs.Marked.{marks, named_first}
use Rattle.collect.proofs.marks.mark_tables.Given as goal

abbrev pub invariant-loop-table : goal.invariant-loop-table
invariant-loop-table l =
    (length l.store ≡ length l.initial.store) × (words l.store ≡ marks l.settings l.at (named_first (words l.initial.store) l.tables l.table-index)
    (words l.initial.store))
