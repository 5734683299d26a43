use mathlib.Core.Path.{◌≡◌}
use Prim.Native.Nat.{ℕ, ◌+◌, ◌*◌, ◌%◌, ◌^◌, ◌<◌}
use native.Mathlib.Omega.{arith}
use Rattle.rules.specs.declared.settings.Settings.{Settings}
use Rattle.rules.specs.Limits.{buckets}
use Rattle.rules.specs.Numbers.{proxy_of, bucket_of}
use Rattle.rules.proofs.Limits.{few_buckets}
use Rattle.rules.proofs.Derived.{bucket_below}
use Rattle.bench.proofs.bench_numbers.Goals as goal

-- no bit of a proxy is shifted out
joined : (settings : Settings) (block proxy bucket : ℕ) → block < 2 ^ 64 → proxy ≡ proxy_of block → bucket ≡ bucket_of (buckets settings) block
    → proxy * 2 ^ 32 % 2 ^ 64 + bucket ≡ proxy_of block * 2 ^ 32 + bucket_of (buckets settings) block
unfolding proxy_of
joined settings block proxy bucket low e e' = omega arith

joined-fits : (settings : Settings) (block proxy bucket : ℕ) → block < 2 ^ 64 → proxy ≡ proxy_of block → bucket ≡ bucket_of (buckets settings) block
    → proxy * 2 ^ 32 % 2 ^ 64 + bucket < 2 ^ 64
unfolding proxy_of
joined-fits settings block proxy bucket low e e' = omega (arith, bucket_below settings block, few_buckets settings)

pub overflow_add-result : goal.overflow_add-result
overflow_add-result c =
    record { fits = joined-fits _ c.args.block _ _ (omega arith) c.proxy.ensures c.bucket.ensures }

pub returns : goal.returns
returns c = joined _ c.args.block _ _ (omega arith) c.proxy.ensures c.bucket.ensures
