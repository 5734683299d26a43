use Rattle.lists.specs.Tests.{◌and◌}
use Rattle.rules.specs.Sound.{sound_header}
use Rattle.store_check.proofs.header_good.Goals as goal

pub returns : goal.returns
unfolding sound_header ◌and◌
returns c = rw (c.read-view.ensures, c.read-given.ensures, c.read-started.ensures)
