use Rattle.rules.specs.Sound.{in_bucket}
use Rattle.row_checks.specs.Rows.{belongs_to}
use Rattle.row_checks.proofs.rows.belongs.Goals as goal

pub returns-in-Bucket : goal.returns-in-Bucket
unfolding belongs_to in_bucket
returns-in-Bucket c = rw (c.in-Bucket.is, c.bucket.ensures)

pub returns-in-Proxy : goal.returns-in-Proxy
unfolding belongs_to
returns-in-Proxy c = rw (c.in-Proxy.is, c.proxy.ensures)

pub returns-in-Anyone : goal.returns-in-Anyone
unfolding belongs_to
returns-in-Anyone c = rw c.in-Anyone.is
