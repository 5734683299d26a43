use Rattle.words.specs.Words.{words}
use Rattle.row_checks.specs.Rows.{key_below}
use Rattle.row_checks.proofs.ChunkLaws.{Passing}
use Rattle.row_checks.proofs.chunks.pass.Given as goal

abbrev pub invariant-loop-i : goal.invariant-loop-i
invariant-loop-i l = Passing (key_below l.bounds) l.chunks l.n (words l.log) l.top l.i

abbrev pub decreases-loop-i : goal.decreases-loop-i
decreases-loop-i l = l.i
