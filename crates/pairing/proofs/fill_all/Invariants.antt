use mathlib.Core.Path.{◌≡◌}
use Rattle.rules.specs.Pairs.{in_order, fill_at}
use Rattle.pairing.proofs.fill_all.Given as goal

abbrev pub invariant-loop-bucket : goal.invariant-loop-bucket
invariant-loop-bucket l = l.assigned ≡ in_order l.bucket (fill_at l.members) l.initial.assigned
