use native.Mathlib.Omega.{arith}
use Rattle.std.proofs.lemmas.Bool.Decides.{nat_tests}
use Rattle.lists.specs.Tests.{◌and◌}
use Rattle.views.proofs.members.up_within.Goals as goal

pub returns-then-id-to : goal.returns-then-id-to
unfolding ◌and◌
returns-then-id-to c = grind (arith, nat_tests)

pub returns-else-id-to : goal.returns-else-id-to
unfolding ◌and◌
returns-else-id-to c = grind (arith, nat_tests)
