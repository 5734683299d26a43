use native.Mathlib.Omega.{arith}
use Rattle.layout.proofs.Bounds.{store_small}
use Rattle.relays.proofs.relay.bag_span.Goals as goal

pub overflow_mul-result : goal.overflow_mul-result
overflow_mul-result c = omega (arith, store_small c.args.settings c.requires)

pub overflow_mul-result-2 : goal.overflow_mul-result-2
overflow_mul-result-2 c = omega (arith, store_small c.args.settings c.requires)

pub returns : goal.returns
returns c = record { start = omega arith; end = omega arith; inside = omega arith }
