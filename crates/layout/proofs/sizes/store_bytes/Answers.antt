use native.Mathlib.Omega.{arith}
use Rattle.layout.proofs.Bounds.{store_small}
use Rattle.layout.proofs.sizes.store_bytes.Goals as goal

pub overflow_mul-result : goal.overflow_mul-result
overflow_mul-result c = omega (arith, store_small c.args.settings c.requires)
