use mathlib.Core.Path.{refl}
use Rattle.lists.specs.Tests.{◌and◌}
use Rattle.rules.specs.Limits.{in_range}
use Rattle.rules.proofs.settings.within.Goals as goal

pub returns : goal.returns
unfolding in_range ◌and◌
returns c = refl
