-- What a branch of code knows of its test.
use mathlib.Core.Path.{◌≡◌, refl}
use mathlib.Core.Bool.{Bool, true, false, not, ◌&&◌}
use Prim.Native.Nat.{ℕ, ◌<◌, ◌≤◌}
use native.Mathlib.Omega.{arith}
use lib.Dec.{T, ltb, lt→ltb}
use Rattle.lists.specs.Tests.{◌and◌}
use Rattle.lists.proofs.Tests.{by_lt}

pub holds : (t : Bool) → T t → t ≡ true
holds true _ = refl
holds false a = absurd a

pub fails : (t : Bool) → T (not t) → t ≡ false
fails true a = absurd a
fails false _ = refl

pub both_hold : (a b : Bool) → T (a && b) → (a and b) ≡ true
unfolding ◌and◌
both_hold a b h = holds (a && b) h

pub not_both : (a b : Bool) → T (not (a && b)) → (a and b) ≡ false
unfolding ◌and◌
not_both a b h = fails (a && b) h

pub less : (a b : ℕ) → a < b → ltb a b ≡ true
less a b h = holds (ltb a b) (lt→ltb a b h)

pub not_less : (a b : ℕ) → b ≤ a → ltb a b ≡ false
not_less a b h = by_lt {P = ltb a b ≡ false} a b (λ _ g. absurd (omega (arith, g, h))) (λ e _. e)
