-- Who holds a chunk, sought member by member.
use mathlib.Core.Path.{◌≡◌, refl, sym, ap, subst, ◌∙◌}
use mathlib.Core.List.{List, [], ◌∷◌, ◌++◌, Memᴰ}
use mathlib.Core.Bool.{true, false}
use Prim.Native.Nat.{ℕ, suc, ◌+◌, ◌≤◌, ◌<◌}
use native.Mathlib.Numerals.{add-one}
use native.Mathlib.Omega.{arith}
use Rattle.lists.specs.Tests.{◌and◌, within}
use Rattle.lists.proofs.Tests.{by, either, clash, both, no_second, only_in}
use Rattle.words.specs.Words.{words}
use Rattle.rules.specs.declared.settings.Settings.{Settings}
use Rattle.rules.specs.Numbers.{home_of}
use Rattle.rules.specs.Chunks.{held}
use Rattle.rules.specs.State.{Bricks}
use Rattle.rules.specs.Derived.{members, members_from, first_holder, holder}
use Rattle.rules.proofs.Derived.{ids_in}
use Rattle.layout.specs.Store.{decode}
use Rattle.lent.specs.Stores.{StoreOf}
use Rattle.lent.proofs.Stores.{facts}
use Rattle.holders.specs.Members.{ids, between, NextAt, LiesAt}
use Rattle.rules.proofs.Ids.{none_between}
use Rattle.holders.proofs.Members.{members_from_is}

-- ---- along a list of bricks
module _ (b : Bricks) (k : ℕ) where
  first_holder_yes : (i : ℕ) (l : List ℕ) → (b.up i and held (b.log i) k) ≡ true → first_holder b k (i ∷ l) ≡ i
  unfolding first_holder
  first_holder_yes i l y = either (λ (z : ℕ). z ≡ i) (b.up i and held (b.log i) k) (λ _. refl) (λ n. clash n y)

  first_holder_no : (i : ℕ) (l : List ℕ) → (b.up i and held (b.log i) k) ≡ false → first_holder b k (i ∷ l) ≡ first_holder b k l
  unfolding first_holder
  first_holder_no i l n = either (λ (z : ℕ). z ≡ first_holder b k l) (b.up i and held (b.log i) k) (λ y. clash n y) (λ _. refl)

  -- a list in two parts: who is found in the first is found, else the second decides
  pub first_holder_first : (l m : List ℕ) → 0 < first_holder b k l → first_holder b k (l ++ m) ≡ first_holder b k l
  first_holder_first [] m h = absurd (omega (arith, none, h))
    where
      none : first_holder b k [] ≡ 0
      none = unfold first_holder in refl
  first_holder_first (i ∷ l) m h =
      by (b.up i and held (b.log i) k) (λ y. first_holder_yes i (l ++ m) y ∙ sym (first_holder_yes i l y))
      (λ n. first_holder_no i (l ++ m) n ∙ first_holder_first l m (rw (first_holder_no i l n) at h) ∙ sym (first_holder_no i l n))

  pub first_holder_second : (l m : List ℕ) → ((j : ℕ) → Memᴰ j l → 0 < j) → first_holder b k l ≡ 0 → first_holder b k (l ++ m) ≡ first_holder b k m
  first_holder_second [] m p e = refl
  first_holder_second (i ∷ l) m p e =
      by (b.up i and held (b.log i) k) (λ y. absurd (omega (arith, first_holder_yes i l y, p i (Memᴰ.head refl))))
      (λ n. first_holder_no i (l ++ m) n ∙ first_holder_second l m (λ j o. p j (Memᴰ.tail o)) (sym (first_holder_no i l n) ∙ e))

-- ---- along the members between two ids
module _ (c : Settings) (bs : List ℕ) (v : StoreOf c bs) (k low to : ℕ) where
  pub sought_none : between (decode (words bs)) low to ≡ [] → first_holder (decode (words bs)).bricks k (between (decode (words bs)) low to) ≡ 0
  unfolding first_holder
  sought_none e = ap (first_holder (decode (words bs)).bricks k) e

  pub sought_over : to ≤ low → first_holder (decode (words bs)).bricks k (between (decode (words bs)) low to) ≡ 0
  sought_over l = sought_none (none_between (decode (words bs)).given (decode (words bs)).bricks.member low to (λ i _ y a b. omega arith))

  -- a member is up
  module _ (p : ℕ) (n : NextAt c (decode (words bs)) low to p) where
    abbrev id : ℕ
    id = (decode (words bs)).ids p

    pub sought_here : held ((decode (words bs)).bricks.log id) k ≡ true → first_holder (decode (words bs)).bricks k (between (decode (words bs)) low to) ≡ id
    sought_here y =
        ap (first_holder (decode (words bs)).bricks k) n.list
        ∙ first_holder_yes (decode (words bs)).bricks k id (between (decode (words bs)) (suc id) to) (both _ _ ((facts c bs v).bricks.member_up id n.member) y)

    pub sought_on : held ((decode (words bs)).bricks.log id) k ≡ false
        → first_holder (decode (words bs)).bricks k (between (decode (words bs)) low to) ≡ first_holder (decode (words bs)).bricks k (between (decode (words bs)) (id + 1) to)
    sought_on y =
        ap (first_holder (decode (words bs)).bricks k) n.list
        ∙ first_holder_no (decode (words bs)).bricks k id (between (decode (words bs)) (suc id) to) (no_second _ _ y)
        ∙ ap (λ (j : ℕ). first_holder (decode (words bs)).bricks k (between (decode (words bs)) j to)) (sym (add-one id))

-- ---- from the home id on, in two stretches
module _ (c : Settings) (bs : List ℕ) (v : StoreOf c bs) (k home : ℕ) (e : home ≡ home_of k) where
  abbrev upper : List ℕ
  upper = between (decode (words bs)) home ids

  abbrev lower : List ℕ
  lower = between (decode (words bs)) 0 home

  whole : holder (decode (words bs)) k ≡ first_holder (decode (words bs)).bricks k (upper ++ lower)
  unfolding holder
  whole =
      ap (λ (h : ℕ). first_holder (decode (words bs)).bricks k (members_from (decode (words bs)) h)) (sym e)
      ∙ ap (first_holder (decode (words bs)).bricks k) (members_from_is (decode (words bs)) home ids (omega (arith, (facts c bs v).bricks.few)))

  pub holder_above : (p r : ℕ) → LiesAt c (decode (words bs)) (first_holder (decode (words bs)).bricks k upper) k p r
      → LiesAt c (decode (words bs)) (holder (decode (words bs)) k) k p r
  holder_above p r h =
      subst (λ (i : ℕ). LiesAt c (decode (words bs)) i k p r) (sym (whole ∙ first_holder_first (decode (words bs)).bricks k upper lower h.stands.some)) h

  pub holder_below : first_holder (decode (words bs)).bricks k upper ≡ 0 → first_holder (decode (words bs)).bricks k lower ≡ holder (decode (words bs)) k
  holder_below z =
      sym (whole ∙ first_holder_second (decode (words bs)).bricks k upper lower
      (λ j m. (ids_in (decode (words bs)).given (decode (words bs)).bricks.member j (only_in (within home ids) (members (decode (words bs))) m).0).0) z)
