use native.Mathlib.Omega.{arith}
use Rattle.layout.proofs.Bounds.{copies_small}
use Rattle.lent.proofs.place.disk_at.Goals as goal

pub overflow_add-result : goal.overflow_add-result
overflow_add-result c = omega (arith, copies_small c.args.settings c.requires.0)
