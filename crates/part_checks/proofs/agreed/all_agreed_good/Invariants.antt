use mathlib.Core.Path.{◌≡◌}
use mathlib.Core.Bool.{true}
use Prim.Native.Nat.{ℕ, ◌<◌}
use Rattle.words.specs.Words.{words}
use Rattle.part_checks.specs.Agreed.{agreed_at_sound}
use Rattle.part_checks.proofs.agreed.all_agreed_good.Given as goal

abbrev pub invariant-loop-g : goal.invariant-loop-g
invariant-loop-g l = (k : ℕ) → k < l.g → agreed_at_sound l.given (words l.store) k ≡ true
