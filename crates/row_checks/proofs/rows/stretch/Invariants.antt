use Rattle.words.specs.Words.{words}
use Rattle.row_checks.specs.Stretches.{Stretch}
use Rattle.row_checks.proofs.rows.stretch.Given as goal

abbrev pub invariant-loop-lower : goal.invariant-loop-lower
invariant-loop-lower l = Stretch l.bounds (words l.table) l.floor l.i l.here.at l.here.block

abbrev pub decreases-loop-lower : goal.decreases-loop-lower
decreases-loop-lower l = l.here.at
