use mathlib.Core.Path.{◌≡◌}
use Prim.Native.Nat.{◌-◌}
use Rattle.words.specs.Words.{words}
use Rattle.rules.specs.Derived.{first_holder}
use Rattle.layout.specs.Store.{decode}
use Rattle.holders.specs.Members.{between}
use Rattle.holders.proofs.first_holder.Given as goal

abbrev pub invariant-loop-low : goal.invariant-loop-low
invariant-loop-low l =
    let s = decode (words l.store) in first_holder s.bricks l.key.0 (between s l.from l.to) ≡ first_holder s.bricks l.key.0 (between s l.low l.to)

abbrev pub decreases-loop-low : goal.decreases-loop-low
decreases-loop-low l = l.to - l.low
