use mathlib.Core.Path.{◌≡◌}
use Prim.Native.Nat.{◌+◌, ◌-◌, ◌/◌}
use native.Mathlib.Omega.{arith}
use Rattle.lists.proofs.Ascending.{lower, upper}
use Rattle.words.proofs.lower_bound.Goals as goal

pub loop-low-preserved-then-number-x : goal.loop-low-preserved-then-number-x
loop-low-preserved-then-number-x g c =
    let l = c.loop-low in
    let mid = l.low + (l.high - l.low) / 2 in
    record {
      inside = (omega arith, omega arith);
      halves = λ f is rising.
          let here : c.number.result ≡ f (l.low + (l.high - l.low) / 2) = is mid c.number.result (omega arith) c.number.ensures in
          (lower f c.args.n c.args.x mid rising (omega arith) (omega arith), (l.invariant.halves f is rising).1);
    }

pub loop-low-preserved : goal.loop-low-preserved
loop-low-preserved g c =
    let l = c.loop-low in
    let mid = l.low + (l.high - l.low) / 2 in
    record {
      inside = (omega arith, omega arith);
      halves = λ f is rising.
          let here : c.number.result ≡ f (l.low + (l.high - l.low) / 2) = is mid c.number.result (omega arith) c.number.ensures in
          ((l.invariant.halves f is rising).0, upper f c.args.n c.args.x mid rising (omega arith) (omega arith));
    }
