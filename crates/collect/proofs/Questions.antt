-- The questions of collect, as the code answers them.
use mathlib.Core.Path.{◌≡◌, refl, ap, ◌∙◌}
use mathlib.Core.Bool.{Bool}
use mathlib.Core.List.{List, [], ◌∷◌}
use native.Mathlib.Omega.{arith}
use lib.Dec.{eqb}
use lib.ListN.{length}
use borrow.Author.Tests.{eq-eqb, ne_eqb}
use Rattle.rules.specs.Entries.{Entry}
use Rattle.rules.specs.Sound.{same_entries}

-- ---- a list against the empty one
pub same_none : (l : List Entry) → same_entries l [] ≡ same_entries [] l
unfolding same_entries
same_none [] = refl
same_none (e ∷ l) = refl

pub none_same : (l : List Entry) → eqb (length l) 0 ≡ same_entries [] l
unfolding same_entries
none_same [] = eq-eqb 0 0 refl
none_same (e ∷ l) = ne_eqb (length (e ∷ l)) 0 (λ z. omega arith)

-- ---- two copies that were lent
pub lent_same : (r : Bool) (a b l m : List Entry) → r ≡ same_entries a b → a ≡ l → b ≡ m → r ≡ same_entries l m
lent_same r a b l m e p q = e ∙ ap (λ (x : List Entry). same_entries x b) p ∙ ap (same_entries l) q
