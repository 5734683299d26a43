use mathlib.Core.Path.{◌≡◌}
use Rattle.text.specs.Kinds.{packed_upto}
use Rattle.text.proofs.pack.Given as goal

abbrev pub invariant-loop-b : goal.invariant-loop-b
invariant-loop-b l = l.n ≡ packed_upto l.word l.b-index
