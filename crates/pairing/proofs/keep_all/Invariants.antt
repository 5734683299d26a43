use mathlib.Core.Path.{◌≡◌}
use Rattle.rules.specs.Pairs.{in_order, keep_at}
use Rattle.pairing.proofs.keep_all.Given as goal

abbrev pub invariant-loop-bucket : goal.invariant-loop-bucket
invariant-loop-bucket l = l.assigned ≡ in_order l.bucket (keep_at l.members) l.initial.assigned
