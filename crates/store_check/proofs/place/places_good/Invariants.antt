use mathlib.Core.Path.{◌≡◌}
use mathlib.Core.Bool.{true}
use Prim.Native.Nat.{ℕ, ◌<◌}
use Rattle.words.specs.Words.{words}
use Rattle.row_checks.specs.Rows.{key_below}
use Rattle.store_check.specs.Places.{place_sound}
use Rattle.store_check.proofs.place.places_good.Given as goal

abbrev pub invariant-loop-p : goal.invariant-loop-p
invariant-loop-p l = (k : ℕ) → k < l.p → place_sound l.settings (key_below l.bounds) l.given (words l.store) k ≡ true
