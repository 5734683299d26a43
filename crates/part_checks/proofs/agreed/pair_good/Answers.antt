use mathlib.Core.Path.{refl}
use Rattle.lists.specs.Tests.{◌and◌}
use Rattle.rules.specs.Sound.{sound_pair}
use Rattle.part_checks.proofs.agreed.pair_good.Goals as goal

pub returns : goal.returns
unfolding sound_pair ◌and◌
returns c = refl
