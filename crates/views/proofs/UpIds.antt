-- The ids of the up bricks, found one after the other.
use mathlib.Core.Path.{◌≡◌, refl, sym, ap, ◌∙◌}
use mathlib.Core.List.{List, [], ◌∷◌, ◌++◌, append_assoc, append-nil}
use mathlib.Core.Bool.{true}
use Prim.Native.Nat.{ℕ, zero, suc, ◌+◌, ◌≤◌, ◌<◌}
use native.Mathlib.Nat.{not-suc-le-zero}
use native.Mathlib.Numerals.{add-one}
use native.Mathlib.Omega.{arith}
use lib.ListN.{length, take, set}
use borrow.Author.Tests.{le-leb, lt-ltb}
use lib.Dec.{ltb}
use Rattle.std.specs.Bool.{then_some}
use Rattle.std.specs.Prelude.{Some, None}
use Rattle.lists.proofs.Tests.{by_lt, both}
use Rattle.lists.proofs.Lists.{only_all}
use Rattle.lists.specs.Tests.{within}
use Rattle.words.specs.Words.{words}
use Rattle.rules.specs.declared.settings.Settings.{Settings}
use Rattle.rules.specs.State.{State}
use Rattle.rules.specs.Pairs.{ids_of}
use Rattle.rules.proofs.Derived.{ids_in}
use Rattle.rules.proofs.Ids.{Lowest, lowest_none, lowest_first}
use Rattle.layout.specs.Store.{decode}
use Rattle.lent.specs.Stores.{StoreOf}
use Rattle.lent.proofs.Stores.{settings_are, facts}
use Rattle.views.specs.Members.{ids, up_from, NextUp}

-- ---- all places passed
module _ (c : Settings) (bs : List ℕ) (v : StoreOf c bs) where
  -- an up brick stands at a place
  standing : (i : ℕ) → (decode (words bs)).bricks.up i ≡ true → (q : ℕ) × (q < c.places) × ((decode (words bs)).ids q ≡ i)
  standing i y =
      let b = (facts c bs v).bricks in
      let t = b.somewhere i (b.up_present i y) in
      (t.0, omega (arith, t.1, ap (λ (x : Settings). x.places) (settings_are c bs v)), t.2)

  pub next_found : (from least : ℕ) → 0 < from → from ≤ ids → Lowest (decode (words bs)).ids (decode (words bs)).bricks.up from ids c.places least
      → NextUp (decode (words bs)) from (then_some (ltb least ids) least)
  next_found from least z m h =
      let s = decode (words bs) in
      by_lt least ids
      (λ q l. let t = standing least (h.found l).0 in
      let e = t.2 in
      rw q (
        (h.found l).1,
        l,
        lowest_first s.ids s.bricks.up from ids s.given c.places least standing h l (omega (arith, (h.found l).1))
            (omega (arith, (facts c bs v).bricks.born t.0)),
      ))
      (λ q l. rw q (lowest_none s.ids s.bricks.up from ids s.given c.places least standing h l))

  pub all_from : up_from (decode (words bs)) 1 ≡ ids_of (decode (words bs)).given (decode (words bs)).bricks.up
  all_from =
      let s = decode (words bs) in
      only_all (within 1 ids) (ids_of s.given s.bricks.up)
      (λ i m. let z = ids_in s.given s.bricks.up i m in
      both _ _ (le-leb 1 i (omega (arith, z.0))) (lt-ltb i ids (omega (arith, z.1, (facts c bs v).bricks.few))))

-- ---- the list so far, and the id from which the search goes on
take_set : (n x : ℕ) (l : List ℕ) → n < length l → take (suc n) (set l n x) ≡ take n l ++ x ∷ []
take_set n x [] h = absurd (not-suc-le-zero h)
take_set zero x (y ∷ l) h = refl
take_set (suc n) x (y ∷ l) h = ap (λ (t : List ℕ). y ∷ t) (take_set n x l (omega arith))

pub record Listed (s : State) (l : List ℕ) (count from : ℕ) : Type 0 where
  pub behind : count < from
  pub high : from ≤ ids
  pub listed : take count l ++ up_from s from ≡ up_from s 1

module _ (s : State) (l : List ℕ) where
  pub listed_start : Listed s l 0 1
  listed_start = record { behind = omega arith; high = omega arith; listed = refl }

  module _ (count from : ℕ) (v : Listed s l count from) where
    pub listed_turn : (id : ℕ) → count < length l → NextUp s from (Some id) → Listed s (set l count id) (count + 1) (id + 1)
    listed_turn id r n = record {
      behind = omega (arith, v.behind, n.0);
      high = omega (arith, n.1);
      listed = rw (add-one count, take_set count id l r, append_assoc (take count l) (id ∷ []) (up_from s (id + 1)), add-one id, ← n.2) v.listed;
    }

    pub listed_all : NextUp s from None → take count l ≡ up_from s 1
    listed_all n = sym (append-nil (take count l)) ∙ rw n at v.listed
