use native.Mathlib.Omega.{arith}
use Rattle.layout.proofs.Bounds.{store_small}
use Rattle.lent.proofs.place.span_of.Goals as goal

pub overflow_mul-from : goal.overflow_mul-from
overflow_mul-from c = omega (arith, store_small c.args.settings c.requires.0)

pub overflow_mul-result : goal.overflow_mul-result
overflow_mul-result c =
    omega (arith, store_small c.args.settings c.requires.0, c.place_at-from.ensures.1)

pub overflow_add-result : goal.overflow_add-result
overflow_add-result c =
    omega (arith, store_small c.args.settings c.requires.0, c.place_at-from.ensures.1)
