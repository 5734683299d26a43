use Rattle.batch.specs.Batch.{batch_with, lent}
use Rattle.batch.proofs.Turns.{Running}
use Rattle.batch.proofs.run_all.Given as goal

abbrev pub invariant-loop-i : goal.invariant-loop-i
invariant-loop-i l =
    Running l.settings l.n (batch_with l.events l.«data») (lent l.initial.store l.initial.area l.initial.answers) (lent l.store l.area l.answers) l.i
