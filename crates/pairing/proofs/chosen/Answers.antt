use native.Mathlib.Omega.{arith}
use Rattle.std.proofs.lemmas.Bool.Decides.{nat_tests}
use Rattle.lists.specs.Tests.{◌and◌, ◌or◌}
use Rattle.rules.specs.Pairs.{choose, preferred}
use Rattle.pairing.proofs.chosen.Goals as goal

pub returns-then-id-one : goal.returns-then-id-one
unfolding choose ◌or◌
returns-then-id-one c = grind (arith, nat_tests)

pub returns-then-other-eq0 : goal.returns-then-other-eq0
unfolding choose preferred ◌or◌
returns-then-other-eq0 c = grind (arith, nat_tests)

pub returns-then-id-other : goal.returns-then-id-other
unfolding choose preferred ◌or◌ ◌and◌
returns-then-id-other c = grind (arith, nat_tests)

pub returns-else-id-other : goal.returns-else-id-other
unfolding choose preferred ◌or◌ ◌and◌
returns-else-id-other c = grind (arith, nat_tests)
