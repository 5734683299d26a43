use mathlib.Core.Path.{◌≡◌, ap, ◌∙◌}
use Prim.Native.Nat.{◌*◌}
use native.Mathlib.Omega.{arith}
use lib.ListN.{length, length-replicate}
use Rattle.rules.specs.Limits.{buckets}
use Rattle.rules.proofs.Limits.{few_buckets}
use Rattle.format.proofs.Pairs.{ids_few, first_pairs_are}
use Rattle.format.proofs.first_pairs.Goals as goal

pub assign-requires : goal.assign-requires
assign-requires c =
    let e = c.buckets.ensures in
    let long : length c.args.assigned.now ≡ 2 * buckets c.args.settings = ap length c.requires.1 ∙ length-replicate _ 0 in
    (omega arith, omega (arith, few_buckets c.args.settings), ids_few c.args.settings.places)

pub returns : goal.returns
returns c =
    let n = c.buckets in
    first_pairs_are c.args.settings c.requires.0 n.result n.ensures _ _ c.requires.1 c.assign.ensures
