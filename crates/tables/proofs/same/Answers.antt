use Rattle.std.proofs.Common.{rules}
use Rattle.lists.specs.Tests.{◌and◌}
use Rattle.tables.specs.Tables.{same_rows}
use Rattle.tables.proofs.same.Goals as goal

pub returns-then-n-read : goal.returns-then-n-read
unfolding same_rows ◌and◌
returns-then-n-read c = search rules

pub returns-else-n-read : goal.returns-else-n-read
unfolding same_rows ◌and◌
returns-else-n-read c = search rules
