use native.Mathlib.Omega.{arith}
use Rattle.rules.proofs.Derived.{bucket_below}
use Rattle.lent.proofs.bucket.number.Goals as goal

pub returns : goal.returns
returns c =
    (c.bucket.ensures, omega (arith, c.bucket.ensures, bucket_below c.args.settings c.args.block.0))
