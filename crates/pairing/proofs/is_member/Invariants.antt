use mathlib.Core.Path.{◌≡◌}
use lib.ListN.{drop}
use Rattle.rules.specs.Pairs.{among}
use Rattle.pairing.proofs.is_member.Given as goal

abbrev pub invariant-loop-member : goal.invariant-loop-member
invariant-loop-member l = among l.members l.id ≡ among (drop l.member-index l.members) l.id
