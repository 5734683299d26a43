use Rattle.row_checks.specs.Rows.{key_below}
use Rattle.row_checks.proofs.rows.key_below.Goals as goal

pub returns : goal.returns
unfolding key_below
returns c = rw (c.home-home.ensures, c.sequence.ensures)
