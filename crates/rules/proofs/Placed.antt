-- The columns of a state are those of its places: this holds of every state that is read from a store's places, sound or not.
use mathlib.Core.Path.{◌≡◌}
use mathlib.Core.List.{[]}
use mathlib.Core.Bool.{true, false}
use Prim.Native.Nat.{ℕ, ◌≤◌, ◌<◌}
use Rattle.rules.specs.Limits.{proxies, buckets}
use Rattle.rules.specs.State.{State, blank_bucket}

pub record Placed (s : State) : Type 0 where
  pub beyond : (p : ℕ) → s.settings.places ≤ p → s.ids p ≡ 0
  pub stands : (p : ℕ) → 0 < s.ids p → s.bricks.present (s.ids p) ≡ true
  pub somewhere : (i : ℕ) → s.bricks.present i ≡ true → (p : ℕ) × (p < s.settings.places) × (s.ids p ≡ i)
  pub no_zero : s.bricks.present 0 ≡ false
  pub blank_up : (i : ℕ) → s.bricks.present i ≡ false → s.bricks.up i ≡ false
  pub blank_member : (i : ℕ) → s.bricks.present i ≡ false → s.bricks.member i ≡ false
  pub blank_began : (i : ℕ) → s.bricks.present i ≡ false → s.bricks.began i ≡ false
  pub blank_next : (i : ℕ) → s.bricks.present i ≡ false → s.bricks.next i ≡ 0
  pub blank_ceiling : (i : ℕ) → s.bricks.present i ≡ false → s.bricks.ceiling i ≡ 0
  pub blank_log : (i : ℕ) → s.bricks.present i ≡ false → s.bricks.log i ≡ []
  pub blank_buffer : (i : ℕ) → s.bricks.present i ≡ false → s.bricks.buffer i ≡ []
  pub blank_memory : (g i : ℕ) → s.bricks.present i ≡ false → (s.bucket g).memory i ≡ []
  pub blank_disk : (g i : ℕ) → s.bricks.present i ≡ false → (s.bucket g).disk i ≡ []
  pub no_bucket : (g : ℕ) → buckets s.settings ≤ g → s.bucket g ≡ blank_bucket
  pub no_items : (p : ℕ) → proxies ≤ p → s.items p ≡ []
  pub no_known : (p : ℕ) → proxies ≤ p → s.known p ≡ 0
