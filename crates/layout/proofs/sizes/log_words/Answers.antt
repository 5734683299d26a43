use native.Mathlib.Omega.{arith}
use Rattle.layout.proofs.Bounds.{cells_small}
use Rattle.layout.proofs.sizes.log_words.Goals as goal

pub overflow_mul-result-2 : goal.overflow_mul-result-2
overflow_mul-result-2 c = omega (arith, cells_small c.args.settings c.requires)

pub overflow_add-result-2 : goal.overflow_add-result-2
overflow_add-result-2 c = omega (arith, cells_small c.args.settings c.requires)
