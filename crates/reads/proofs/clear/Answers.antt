use Prim.Native.Nat.{◌/◌}
use native.Mathlib.Omega.{arith}
use lib.ListN.{length}
use Rattle.reads.proofs.Zeros.{filled_zeros}
use Rattle.reads.proofs.clear.Goals as goal

pub returns : goal.returns
returns c =
    let n = length c.args.area.now in
    filled_zeros n (n / 8) c.args.area.now _ (omega (arith, c.requires)) c.fill.auto.s c.fill.ensures
