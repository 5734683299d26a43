use mathlib.Core.Path.{◌≡◌}
use mathlib.Core.Bool.{true}
use Prim.Native.Nat.{ℕ, ◌<◌}
use Rattle.words.specs.Words.{words}
use Rattle.row_checks.specs.Rows.{key_below}
use Rattle.part_checks.specs.Copies.{copies_sound}
use Rattle.part_checks.proofs.copies.all_copies_good.Given as goal

abbrev pub invariant-loop-g : goal.invariant-loop-g
invariant-loop-g l = (k : ℕ) → k < l.g → copies_sound l.settings (key_below l.bounds) l.up (words l.copies) k ≡ true
