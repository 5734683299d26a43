use native.Mathlib.Omega.{arith}
use Rattle.layout.proofs.Bounds.{store_small}
use Rattle.lent.proofs.copies.disk_at.Goals as goal

pub overflow_add-result : goal.overflow_add-result
overflow_add-result c =
    omega (arith, store_small c.args.settings c.requires.0)
