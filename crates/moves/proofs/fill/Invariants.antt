use mathlib.Core.Path.{◌≡◌}
use lib.ListN.{replicate}
use lib.Seq.{paste}
use Rattle.words.specs.Words.{words}
use Rattle.moves.proofs.fill.Given as goal

abbrev pub invariant-loop-i : goal.invariant-loop-i
invariant-loop-i l = words l.s ≡ paste (words l.initial.s) l.at (replicate l.n l.v) l.i
