use Rattle.store_check.proofs.BoundLaws.{GivenBelow}
use Rattle.store_check.proofs.bounds.fill_given.Given as goal

abbrev pub invariant-loop-i : goal.invariant-loop-i
invariant-loop-i l = GivenBelow l.i l.initial.bounds l.bounds
