use native.Mathlib.Omega.{arith}
use Rattle.layout.proofs.Bounds.{place_small}
use Rattle.layout.proofs.sizes.place_words.Goals as goal

pub overflow_add-result : goal.overflow_add-result
overflow_add-result c = omega (arith, place_small c.args.settings c.requires)
