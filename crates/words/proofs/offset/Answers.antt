use native.Mathlib.Omega.{arith}
use Rattle.lists.proofs.Runs.{fits_in}
use Rattle.words.proofs.offset.Goals as goal

pub overflow_mul-result : goal.overflow_mul-result
overflow_mul-result c = omega (arith, fits_in c.args.size c.requires.0)

pub returns : goal.returns
returns c = omega (arith, fits_in c.args.size c.requires.0)
