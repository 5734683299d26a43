use native.Mathlib.Omega.{arith}
use Rattle.rules.proofs.Limits.{few_buckets}
use Rattle.format.proofs.Pairs.{no_pairs}
use Rattle.format.proofs.first_state.Goals as goal

pub slice_bounds-room-end : goal.slice_bounds-room-end
slice_bounds-room-end c = omega (arith, few_buckets c.args.settings, c.buckets-used.ensures)

pub write_in-requires : goal.write_in-requires
write_in-requires c =
    let n = c.buckets-used in
    (c.requires.0, c.requires.1, no_pairs c.args.settings n.result n.ensures)
