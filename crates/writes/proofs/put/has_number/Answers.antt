use mathlib.Core.Path.{refl}
use Rattle.lists.specs.Tests.{◌or◌}
use Rattle.writes.proofs.put.has_number.Goals as goal

pub returns : goal.returns
unfolding ◌or◌
returns c = refl
