use native.Mathlib.Omega.{arith}
use Rattle.rules.proofs.Limits.{some_buckets, power_of_two}
use Rattle.rules.proofs.Derived.{bucket_bits}
use Rattle.rules.proofs.numbers.BlockNumber.bucket.Goals as goal

pub overflow_sub-result : goal.overflow_sub-result
overflow_sub-result c = omega (arith, some_buckets c.args.settings, c.buckets.ensures)

pub returns : goal.returns
returns c = rw c.buckets.ensures (bucket_bits _ _ (power_of_two _))
