use mathlib.Core.Path.{◌≡◌}
use lib.Seq.{paste}
use Rattle.words.specs.Words.{words}
use Rattle.moves.proofs.put_words.Given as goal

abbrev pub invariant-loop-i : goal.invariant-loop-i
invariant-loop-i l = words l.s ≡ paste (words l.initial.s) l.at l.list l.i
