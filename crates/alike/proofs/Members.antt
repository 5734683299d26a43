-- Two stores have the same members, where each member of either is a member of the other.
use mathlib.Core.Path.{◌≡◌, refl, sym, subst, ◌∙◌}
use mathlib.Core.Bool.{Bool, true, false}
use Prim.Native.Nat.{ℕ, suc}
use native.Mathlib.Omega.{arith}
use Rattle.lists.specs.Tests.{◌and◌, all_below}
use Rattle.lists.proofs.Tests.{impossible, and_l, and_r, both, if_so, so_if, same_test, all_true, all_at}
use Rattle.rules.specs.Limits.{max_id}
use Rattle.rules.specs.State.{State}
use Rattle.rules.specs.Alike.{same_flag}
use Rattle.rules.proofs.Sound.{Sound}
use Rattle.alike.specs.Alike.{member_in}

same_flag_true : (a b : Bool) → same_flag a b ≡ true → a ≡ b
unfolding same_flag
same_flag_true true b y = sym y
same_flag_true false true y = impossible y
same_flag_true false false y = refl

same_flag_of : (a b : Bool) → a ≡ b → same_flag a b ≡ true
unfolding same_flag
same_flag_of true b e = sym e
same_flag_of false true e = impossible e
same_flag_of false false e = refl

module _ (s t : State) where
  abbrev same_members : Bool
  same_members = all_below (suc max_id) (λ i. same_flag (s.bricks.member i) (t.bricks.member i))

-- from ids to places
places_of : (s t : State) → Sound s → same_members s t ≡ true → (n : ℕ) → all_below n (member_in s t) ≡ true
places_of s t sd y n = all_true n (member_in s t) (λ p l. let i = s.ids p in
    so_if _ _ (λ m. sym (same_flag_true _ _ (all_at _ _ y i (omega (arith, sd.bricks.born p, sd.bricks.few)))) ∙ m))

-- and back
member_of : (s t : State) → Sound s → all_below s.settings.places (member_in s t) ≡ true → (i : ℕ) → s.bricks.member i ≡ true → t.bricks.member i ≡ true
member_of s t sd y i m =
    let w = sd.bricks.somewhere i (sd.bricks.up_present i (sd.bricks.member_up i m)) in
    subst (λ (j : ℕ). s.bricks.member j ≡ true → t.bricks.member j ≡ true) w.2 (if_so _ _ (all_at _ _ y w.0 w.1)) m

pub members_are : (s t : State) → Sound s → Sound t → s.settings.places ≡ t.settings.places
    → same_members s t ≡ (all_below s.settings.places (member_in s t) and all_below s.settings.places (member_in t s))
members_are s t sd td e =
    same_test _ _
    (λ y. both _ _ (places_of s t sd y s.settings.places) (places_of t s td (turned y) s.settings.places))
    (λ y. all_true _ _ (λ i l. same_flag_of _ _ (same_test _ _ (member_of s t sd (and_l _ _ y) i)
    (member_of t s td (subst (λ (n : ℕ). all_below n (member_in t s) ≡ true) e (and_r _ _ y)) i))))
  where
    turned : same_members s t ≡ true → same_members t s ≡ true
    turned y = all_true _ _ (λ i l. same_flag_of _ _ (sym (same_flag_true _ _ (all_at _ _ y i l))))
