use mathlib.Core.Path.{◌≡◌}
use lib.Dec.{eqb}
use Rattle.lists.specs.Tests.{all_below}
use Rattle.words.specs.Words.{words}
use Rattle.tables.specs.Tables.{same_at}
use Rattle.part_checks.proofs.copies.compare_words.Given as goal

abbrev pub invariant-loop-i : goal.invariant-loop-i
invariant-loop-i l =
    (eqb l.other 0 ≡ all_below l.i (same_at (words l.one) (words l.second))) × (eqb l.unsaved 0 ≡ all_below l.i (same_at (words l.one) (words l.third)))
