-- The members from the home id upward, circularly: who comes first, who comes second, and the first other than the home brick.
use mathlib.Core.Path.{◌≡◌, refl, sym, ap, ◌∙◌}
use mathlib.Core.List.{List, [], ◌∷◌, ◌++◌}
use mathlib.Core.Bool.{Bool, true}
use Prim.Native.Nat.{ℕ, suc, ◌+◌}
use native.Mathlib.Numerals.{add-one}
use native.Mathlib.Omega.{arith}
use lib.Dec.{leb, ltb, eqb}
use borrow.Author.Tests.{eq-eqb, ne_eqb, le-leb, lt-leb}
use Rattle.lists.specs.Tests.{◌and◌, ◌or◌, only, within}
use Rattle.lists.proofs.Tests.{by, by_eq, by_lt, or_l, no_first}
use Rattle.words.specs.Words.{words}
use Rattle.rules.specs.declared.settings.Settings.{Settings}
use Rattle.rules.specs.Numbers.{home_of}
use Rattle.rules.specs.State.{State}
use Rattle.rules.specs.Derived.{members, members_from}
use Rattle.rules.specs.Upkeep.{of_first_two}
use Rattle.rules.specs.Writes.{other_than, target}
use Rattle.layout.specs.Store.{decode}
use Rattle.std.proofs.Common.{Option, Some, None}
use Rattle.lent.specs.Stores.{StoreOf}
use Rattle.lent.specs.Places.{Stands}
use Rattle.lent.proofs.Stores.{facts}
use Rattle.holders.specs.Members.{ids, between, NextAt, NextIn, Chosen, round, begins_with}
use Rattle.holders.proofs.Members.{members_from_is}

-- ---- the head of a list, and the first two: code has read the head as `first`
module _ (l t : List ℕ) (x first id : ℕ) (e : l ≡ x ∷ t) (f : first ≡ x) where
  pub begins : eqb first id ≡ begins_with id l
  unfolding begins_with
  begins = rw (e, f) refl

  pub two_hit : first ≡ id → of_first_two id l ≡ true
  two_hit h = ap (of_first_two id) e ∙ hit t
    where
      hit : (t : List ℕ) → of_first_two id (x ∷ t) ≡ true
      hit [] = unfold of_first_two in eq-eqb x id (sym f ∙ h)
      hit (y ∷ t) = unfold of_first_two in or_l _ _ (eq-eqb x id (sym f ∙ h))

  pub two_miss : (first ≡ id → ⊥) → of_first_two id l ≡ begins_with id t
  two_miss h = ap (of_first_two id) e ∙ miss t
    where
      miss : (t : List ℕ) → of_first_two id (x ∷ t) ≡ begins_with id t
      miss [] = unfold of_first_two begins_with in ne_eqb x id (λ z. h (f ∙ z))
      miss (y ∷ t) = unfold of_first_two begins_with ◌or◌ in rw (ne_eqb x id (λ z. h (f ∙ z))) refl

-- ---- in two stretches
module _ (c : Settings) (s : State) (low home : ℕ) where
  pub round_at : (p : ℕ) → NextAt c s low ids p → round s low home ≡ s.ids p ∷ round s (suc (s.ids p)) home
  round_at p n = ap (λ (l : List ℕ). l ++ between s 0 home) n.list

  pub round_none : between s low ids ≡ [] → round s low home ≡ between s 0 home
  round_none e = ap (λ (l : List ℕ). l ++ between s 0 home) e

-- code goes on from `first + 1`
pub after_first : (first x : ℕ) → first ≡ x → first + 1 ≡ suc x
after_first first x e = ap (λ (n : ℕ). n + 1) e ∙ add-one x

pub all_members_from : (c : Settings) (bs : List ℕ) → StoreOf c bs → (home k : ℕ) → home ≡ home_of k
    → members_from (decode (words bs)) (home_of k) ≡ round (decode (words bs)) home home
all_members_from c bs v home k e =
    ap (members_from (decode (words bs))) (sym e) ∙ members_from_is (decode (words bs)) home ids (omega (arith, (facts c bs v).bricks.few))

-- ---- the first other than the home brick
other_skips : (home to : ℕ) (l m : List ℕ) → other_than home (only (within home to) l ++ m) ≡ other_than home (only (within (suc home) to) l ++ m)
unfolding other_than only
other_skips home to [] m = refl
other_skips home to (x ∷ l) m =
    by_eq x home
    (λ q e. rw (no_first (leb (suc home) x) (ltb x to) (lt-leb (suc home) x (omega arith)))
    (by (within home to x) (λ y. rw (y, q) (other_skips home to l m)) (λ n. rw n (other_skips home to l m))))
    (λ q e. rw (same x e) (by (within (suc home) to x) (λ y. rw (y, q) refl) (λ n. rw n (other_skips home to l m))))
  where
    same : (x : ℕ) → (x ≡ home → ⊥) → within home to x ≡ within (suc home) to x
    same x e =
        ap (λ (t : Bool). t and ltb x to)
        (by_lt home x (λ _ l. le-leb home x (omega arith) ∙ sym (le-leb (suc home) x l))
        (λ _ l. lt-leb home x (omega arith) ∙ sym (lt-leb (suc home) x (omega arith))))

module _ (c : Settings) (bs : List ℕ) (v : StoreOf c bs) (k home : ℕ) (e : home ≡ home_of k) where
  is_other : target (decode (words bs)) k ≡ other_than home (round (decode (words bs)) (suc home) home)
  unfolding target
  is_other =
      ap (λ (h : ℕ). other_than h (members_from (decode (words bs)) h)) (sym e)
      ∙ ap (other_than home) (members_from_is (decode (words bs)) home ids (omega (arith, (facts c bs v).bricks.few)))
      ∙ other_skips home ids (members (decode (words bs))) (between (decode (words bs)) 0 home)

  other_first : (x : ℕ) (l : List ℕ) → (x ≡ home → ⊥) → other_than home (x ∷ l) ≡ x
  unfolding other_than
  other_first x l n = rw (ne_eqb x home n)

  pub target_above : (p : ℕ) → NextAt c (decode (words bs)) (home + 1) ids p → Stands c (decode (words bs)) (target (decode (words bs)) k) p
  target_above p n =
      let id : ℕ = (decode (words bs)).ids p in
      let m : NextAt c (decode (words bs)) (suc home) ids p = rw (add-one home) at n in
      let same : target (decode (words bs)) k ≡ id =
      is_other ∙ ap (other_than home) (round_at c (decode (words bs)) (suc home) home p m)
      ∙ other_first id (round (decode (words bs)) (suc id) home) (λ z. omega (arith, m.low)) in
      record { inside = n.inside; some = rw same n.some; here = sym same }

  pub target_below : between (decode (words bs)) (home + 1) ids ≡ [] → (r : Option ℕ) → NextIn c (decode (words bs)) 0 home r
      → Chosen c (decode (words bs)) (target (decode (words bs)) k) r
  target_below z (Some p) n =
      let id : ℕ = (decode (words bs)).ids p in
      let none : between (decode (words bs)) (suc home) ids ≡ [] = rw (add-one home) at z in
      let same : target (decode (words bs)) k ≡ id =
      is_other ∙ ap (other_than home) (round_none c (decode (words bs)) (suc home) home none ∙ n.list)
      ∙ other_first id (between (decode (words bs)) (suc id) home) (λ z. omega (arith, n.high)) in
      record { inside = n.inside; some = rw same n.some; here = sym same }
  target_below z (None) n =
      let none : between (decode (words bs)) (suc home) ids ≡ [] = rw (add-one home) at z in
      is_other ∙ ap (other_than home) (round_none c (decode (words bs)) (suc home) home none ∙ n) ∙ empty
    where
      empty : other_than home [] ≡ 0
      empty = unfold other_than in refl
