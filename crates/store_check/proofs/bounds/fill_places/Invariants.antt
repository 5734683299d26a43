use Rattle.words.specs.Words.{words}
use Rattle.store_check.specs.Bounds.{Filled}
use Rattle.store_check.proofs.bounds.fill_places.Given as goal

abbrev pub invariant-loop-p : goal.invariant-loop-p
invariant-loop-p l = Filled l.settings l.given (words l.store) l.p l.initial.bounds l.bounds
