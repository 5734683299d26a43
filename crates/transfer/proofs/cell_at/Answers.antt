use native.Mathlib.Omega.{arith}
use Rattle.layout.proofs.Bounds.{cells_small, store_small}
use Rattle.transfer.proofs.cell_at.Goals as goal

pub offset-requires : goal.offset-requires
offset-requires c = (c.requires.2, omega (arith, cells_small c.args.settings c.requires.0))

pub overflow_add-cell-2 : goal.overflow_add-cell-2
overflow_add-cell-2 c = omega (arith, cells_small c.args.settings c.requires.0)

pub overflow_add-result : goal.overflow_add-result
overflow_add-result c = omega (arith, store_small c.args.settings c.requires.0)

pub overflow_add-result-2 : goal.overflow_add-result-2
overflow_add-result-2 c = omega (arith, store_small c.args.settings c.requires.0)
