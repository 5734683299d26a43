use Prim.Native.Nat.{◌*◌, ◌^◌, ◌≤◌}
use native.Mathlib.Omega.{arith}
use Rattle.layout.proofs.Bounds.{copies_small}
use Rattle.layout.proofs.sizes.log_at.Goals as goal

small : (c : goal.After-copies_words) → c.buckets.result * c.copies_words.result ≤ 2 ^ 19
small c =
    rw (c.buckets.ensures, c.copies_words.ensures) (copies_small c.args.settings c.requires)

pub overflow_mul-result : goal.overflow_mul-result
overflow_mul-result c = omega (arith, small c)

pub overflow_add-result : goal.overflow_add-result
overflow_add-result c = omega (arith, small c)

pub returns : goal.returns
returns c = rw (c.buckets.ensures, c.copies_words.ensures)
