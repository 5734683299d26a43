use mathlib.Core.Path.{◌≡◌}
use Prim.Native.Nat.{ℕ, ◌-◌, ◌≤◌, ◌<◌}
use Rattle.words.proofs.lower_bound.Given as goal

abbrev pub invariant-loop-low : goal.invariant-loop-low
invariant-loop-low g l = record {
  inside : (l.low ≤ l.high) × (l.high ≤ l.n);
  halves : (f : ℕ → ℕ) → ((i r : ℕ) → i < l.n → goal.F-post g l.number i r → r ≡ f i) → ((i j : ℕ) → i < j → j < l.n → f i < f j)
      → ((j : ℕ) → j < l.low → f j < l.x) × ((j : ℕ) → l.high ≤ j → j < l.n → l.x ≤ f j);
}

abbrev pub decreases-loop-low : goal.decreases-loop-low
decreases-loop-low g l = l.high - l.low
