use native.Mathlib.Omega.{arith}
use Rattle.rules.proofs.Limits.{few_buckets}
use Rattle.views.proofs.begin.begin.Goals as goal

pub slice_bounds-room-end : goal.slice_bounds-room-end
slice_bounds-room-end c =
    omega (arith, few_buckets c.args.settings, c.buckets-used.ensures)
