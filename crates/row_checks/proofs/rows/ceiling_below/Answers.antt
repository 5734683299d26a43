use Rattle.std.proofs.Common.{rules}
use Rattle.row_checks.specs.Rows.{ceiling_below}
use Rattle.row_checks.proofs.rows.ceiling_below.Goals as goal

pub returns-in-Bucket : goal.returns-in-Bucket
unfolding ceiling_below
returns-in-Bucket c = search rules

pub returns-in-Anyone : goal.returns-in-Anyone
unfolding ceiling_below
returns-in-Anyone c = search rules
