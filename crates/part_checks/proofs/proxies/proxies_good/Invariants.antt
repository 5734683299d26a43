use mathlib.Core.Path.{◌≡◌}
use mathlib.Core.Bool.{true}
use Prim.Native.Nat.{ℕ, ◌<◌}
use Rattle.words.specs.Words.{words}
use Rattle.row_checks.specs.Rows.{key_below}
use Rattle.part_checks.specs.Proxies.{proxy_sound}
use Rattle.part_checks.proofs.proxies.proxies_good.Given as goal

abbrev pub invariant-loop-p : goal.invariant-loop-p
invariant-loop-p l = (k : ℕ) → k < l.p → proxy_sound l.settings (key_below l.bounds) (words l.store) k ≡ true
