use mathlib.Core.Path.{◌≡◌}
use lib.ListN.{length}
use Rattle.words.specs.Words.{words}
use Rattle.named.specs.Tables.{names_first}
use Rattle.collect.specs.Marked.{marks}
use Rattle.collect.proofs.marks.mark_table.Given as goal

abbrev pub invariant-loop-i : goal.invariant-loop-i
invariant-loop-i l =
    (length l.store ≡ length l.initial.store) × (words l.store ≡ marks l.settings l.at (names_first (words l.initial.store) l.from l.i) (words l.initial.store))
