use native.Mathlib.Omega.{arith}
use Rattle.rules.proofs.Limits.{few_buckets}
use Rattle.layout.proofs.sizes.proxies_at.Goals as goal

pub overflow_mul-result : goal.overflow_mul-result
overflow_mul-result c = omega (arith, few_buckets c.args.settings)

pub overflow_add-result : goal.overflow_add-result
overflow_add-result c = omega (arith, few_buckets c.args.settings)
