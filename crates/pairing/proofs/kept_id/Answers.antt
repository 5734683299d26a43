use native.Mathlib.Omega.{arith}
use Rattle.std.proofs.lemmas.Bool.Decides.{nat_tests}
use Rattle.lists.specs.Tests.{◌and◌}
use Rattle.rules.specs.Pairs.{kept_of_pair}
use Rattle.pairing.proofs.kept_id.Goals as goal

pub returns-then-is_member : goal.returns-then-is_member
unfolding kept_of_pair ◌and◌
returns-then-is_member c = grind (arith, nat_tests)

pub returns-else-id-other : goal.returns-else-id-other
unfolding kept_of_pair ◌and◌
returns-else-id-other c = grind (arith, nat_tests)
