use Rattle.words.specs.Words.{words}
use Rattle.row_checks.specs.Chunks.{Descent}
use Rattle.row_checks.proofs.chunks.descend.Given as goal

abbrev pub invariant-loop-lower : goal.invariant-loop-lower
invariant-loop-lower l = Descent l.chunks l.n (words l.log) l.floor l.i l.here.at l.here.key l.here.flags

abbrev pub decreases-loop-lower : goal.decreases-loop-lower
decreases-loop-lower l = l.here.at
