-- Which bytes are a line.
use mathlib.Core.Path.{◌≡◌, refl}
use mathlib.Core.Bool.{true, false}
use mathlib.Core.List.{List, [], ◌∷◌}
use Prim.Native.Nat.{ℕ, ◌-◌, ◌≤◌, ◌<◌}
use native.Mathlib.Omega.{arith}
use borrow.Author.Tests.{le-leb, lt-leb}
use lib.Dec.{eqb}
use lib.ListN.{length, get_or}
use Rattle.lists.specs.Tests.{◌and◌}
use Rattle.lists.proofs.Tests.{impossible}
use Rattle.text.specs.Lines.{longest, line_feed, is_line}

pub no_bytes_no_line : (l : List ℕ) → length l ≡ 0 → is_line l ≡ false
unfolding is_line ◌and◌
no_bytes_no_line [] e = refl
no_bytes_no_line (b ∷ l) e = absurd (omega arith)

pub line_not_empty : (l : List ℕ) → is_line l ≡ true → 1 ≤ length l
unfolding is_line ◌and◌
line_not_empty [] e = impossible e
line_not_empty (b ∷ l) e = omega arith

pub too_long : (l : List ℕ) → longest < length l → is_line l ≡ false
unfolding is_line ◌and◌
too_long l h = rw (lt-leb (length l) longest h)

pub by_last : (l : List ℕ) → length l ≤ longest → is_line l ≡ eqb (get_or l (length l - 1) 0) line_feed
unfolding is_line ◌and◌
by_last l h = rw (le-leb (length l) longest h)
