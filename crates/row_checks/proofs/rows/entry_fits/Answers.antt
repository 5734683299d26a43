use Rattle.std.proofs.Common.{rules}
use Rattle.lists.specs.Tests.{◌and◌}
use Rattle.row_checks.specs.Rows.{entry_fits}
use Rattle.row_checks.proofs.rows.entry_fits.Goals as goal

pub returns-then-belongs : goal.returns-then-belongs
unfolding entry_fits ◌and◌
returns-then-belongs c = search rules

pub returns-else-belongs : goal.returns-else-belongs
unfolding entry_fits ◌and◌
returns-else-belongs c = search rules
