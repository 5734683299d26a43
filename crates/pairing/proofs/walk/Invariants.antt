use mathlib.Core.Path.{◌≡◌}
use Rattle.rules.specs.Pairs.{in_order, walk_at}
use Rattle.pairing.proofs.walk.Given as goal

abbrev pub invariant-loop-bucket : goal.invariant-loop-bucket
invariant-loop-bucket l = l.assigned ≡ in_order l.bucket (walk_at l.members l.share l.role) l.initial.assigned
