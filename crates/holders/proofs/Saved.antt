-- Is a chunk saved at two members?
use Rattle.std.proofs.Common.{Option, Some, None}
use Rattle.std.specs.Option.{is_some}
use mathlib.Core.Path.{◌≡◌, sym, ap, ◌∙◌}
use mathlib.Core.List.{List, Memᴰ}
use mathlib.Core.Bool.{true, false}
use Prim.Native.Nat.{ℕ, suc, ◌≤◌, ◌<◌}
use native.Mathlib.Omega.{arith}
use borrow.Author.Tests.{le-leb}
use Rattle.lists.proofs.Tests.{by, by_lt, clash, and_l, and_r, both, two_elements}
use Rattle.words.specs.Words.{words}
use Rattle.rules.specs.declared.settings.Settings.{Settings}
use Rattle.rules.specs.Chunks.{saved_in}
use Rattle.rules.specs.Derived.{members, saved_at, saved_twice}
use Rattle.rules.proofs.Derived.{in_ids, ids_in, in_saved_at, saved_elsewhere}
use Rattle.layout.specs.Store.{decode}
use Rattle.lent.specs.Stores.{StoreOf}
use Rattle.lent.proofs.Stores.{settings_are, facts}
use Rattle.holders.specs.Members.{member_saved, NextSavedAt, NextSaved}

module _ (c : Settings) (bs : List ℕ) (v : StoreOf c bs) where
  -- a place that has a member is not empty
  pub member_some : (p : ℕ) → (decode (words bs)).bricks.member ((decode (words bs)).ids p) ≡ true → 0 < (decode (words bs)).ids p
  member_some p y = let b = (facts c bs v).bricks in b.first _ (b.up_present _ (b.member_up _ y))

  module _ (k : ℕ) where
    at_place : (p : ℕ) → member_saved (decode (words bs)) k p ≡ true → Memᴰ ((decode (words bs)).ids p) (saved_at (decode (words bs)) k)
    at_place p y =
        let member = and_l _ _ y in
        in_saved_at (decode (words bs)) k _
        (in_ids (decode (words bs)).given (decode (words bs)).bricks.member _ (member_some p member) ((facts c bs v).bricks.born p) member) (and_r _ _ y)

    -- at two places stand two bricks
    at_two_places : (p q : ℕ) → p < q → member_saved (decode (words bs)) k p ≡ true → member_saved (decode (words bs)) k q ≡ true
        → saved_twice (decode (words bs)) k ≡ true
    unfolding saved_twice
    at_two_places p q l y z =
        le-leb 2 _ (two_elements (saved_at (decode (words bs)) k) (at_place p y) (at_place q z)
        (λ e. omega (arith, (facts c bs v).bricks.apart p q e (member_some p (and_l _ _ y)))))

    -- at one place at most
    pub nowhere_else : (p : ℕ) → ((q : ℕ) → q < c.places → (q ≡ p → ⊥) → member_saved (decode (words bs)) k q ≡ false)
        → saved_twice (decode (words bs)) k ≡ false
    nowhere_else p h =
        by (saved_twice (decode (words bs)) k) (λ y. absurd (elsewhere (saved_elsewhere (decode (words bs)) k ((decode (words bs)).ids p) y))) (λ n. n)
      where
        elsewhere : (i : ℕ) × Memᴰ i (members (decode (words bs))) × (saved_in ((decode (words bs)).bricks.log i) k ≡ true)
            × (i ≡ (decode (words bs)).ids p → ⊥) → ⊥
        elsewhere m =
            let i = m.0 in
            let b = (facts c bs v).bricks in
            let y = (ids_in (decode (words bs)).given (decode (words bs)).bricks.member i m.1).2 in
            let t = b.somewhere i (b.up_present i (b.member_up i y)) in
            clash
            (h t.0 (omega (arith, t.1, ap (λ (x : Settings). x.places) (settings_are c bs v))) (λ e. m.3 (sym t.2 ∙ ap (decode (words bs)).ids e)))
            (both _ _ (rw t.2 y) (rw t.2 m.2))

    -- ---- what two searches find, the second from some place on
    module _ (p from : ℕ) (f : NextSavedAt c (decode (words bs)) k 0 p) where
      found_twice : (q : ℕ) → NextSavedAt c (decode (words bs)) k from q → p < from → saved_twice (decode (words bs)) k ≡ true
      found_twice q g l = at_two_places p q (omega (arith, g.low)) f.saved g.saved

      found_once : ((q : ℕ) → q < c.places → from ≤ q → member_saved (decode (words bs)) k q ≡ false) → from ≤ suc p
          → saved_twice (decode (words bs)) k ≡ false
      found_once none l = nowhere_else p (λ q n apart. by_lt q p (λ _ less. f.before q less (omega arith)) (λ _ least. none q n (omega (arith, least, apart))))

      pub second_found : p < from → from ≤ suc p → (r : Option ℕ) → NextSaved c (decode (words bs)) k from r → saved_twice (decode (words bs)) k ≡ is_some r
      second_found l m None none = found_once none m
      second_found l m (Some q) g = found_twice q g l
