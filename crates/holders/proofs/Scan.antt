-- The places passed one by one, for the first member between two ids.
use Rattle.std.proofs.Common.{Option, Some, None}
use Rattle.std.specs.Option.{MatchOption}
use mathlib.Core.Path.{◌≡◌, refl, ap}
use mathlib.Core.List.{List, []}
use mathlib.Core.Bool.{true, false}
use Prim.Native.Nat.{ℕ, ◌+◌, ◌<◌}
use native.Mathlib.Omega.{arith}
use borrow.Author.Tests.{ltb-true}
use Rattle.lists.proofs.Tests.{and_l, and_r}
use Rattle.words.specs.Words.{words}
use Rattle.rules.specs.declared.settings.Settings.{Settings}
use Rattle.rules.specs.State.{State}
use Rattle.rules.proofs.Ids.{Lowest, lowest_start, lowest_hit, lowest_miss, lowest_none, lowest_first}
use Rattle.layout.specs.Store.{decode}
use Rattle.lent.specs.Stores.{StoreOf}
use Rattle.lent.proofs.Stores.{settings_are, facts}
use Rattle.holders.specs.Members.{between, member_within, NextAt, NextIn}

-- of the places below p, the member with the least id from `from` to below `to` stands at the first place; at none where there is none
pub record Scanned (c : Settings) (s : State) (from to p least : ℕ) (first : Option ℕ) : Type 0 where
  pub lowest : Lowest s.ids s.bricks.member from to p least
  pub found : MatchOption first (least ≡ to) (λ at. (at < c.places) × (s.ids at ≡ least) × (least < to))

module _ (c : Settings) (s : State) (from to : ℕ) where
  pub scan_start : Scanned c s from to 0 to None
  scan_start = record { lowest = lowest_start s.ids s.bricks.member from to; found = refl }

  module _ (p least : ℕ) (first : Option ℕ) (v : Scanned c s from to p least first) where
    pub scan_hit : p < c.places → member_within s from least p ≡ true → Scanned c s from to (p + 1) (s.ids p) (Some p)
    scan_hit l y =
        let high : s.ids p < least = ltb-true _ _ (and_r _ _ (and_l _ _ y)) in
        record {
          lowest = lowest_hit s.ids s.bricks.member from to p least v.lowest y;
          found = (l, refl, omega (arith, v.lowest.most));
        }

    pub scan_miss : member_within s from least p ≡ false → Scanned c s from to (p + 1) least first
    scan_miss n = record { lowest = lowest_miss s.ids s.bricks.member from to p least v.lowest n; found = v.found }

-- ---- all places passed
module _ (c : Settings) (bs : List ℕ) (v : StoreOf c bs) (from to least : ℕ) (low : Lowest (decode (words bs)).ids (decode (words bs)).bricks.member from to c.places least) where
  abbrev s : State
  s = decode (words bs)

  -- a member stands at a place
  standing : (i : ℕ) → (decode (words bs)).bricks.member i ≡ true → (q : ℕ) × (q < c.places) × ((decode (words bs)).ids q ≡ i)
  standing i y =
      let b = (facts c bs v).bricks in
      let t = b.somewhere i (b.up_present i (b.member_up i y)) in
      (t.0, omega (arith, t.1, ap (λ (x : Settings). x.places) (settings_are c bs v)), t.2)

  scan_none : least ≡ to → between (decode (words bs)) from to ≡ []
  scan_none l = lowest_none s.ids s.bricks.member from to s.given c.places least standing low (omega (arith, l))

  scan_next : (at : ℕ) → (at < c.places) × ((decode (words bs)).ids at ≡ least) × (least < to) → NextAt c (decode (words bs)) from to at
  scan_next at f =
      let o = low.found f.2 in
      let b = (facts c bs v).bricks in
      let member : (decode (words bs)).bricks.member ((decode (words bs)).ids at) ≡ true = rw f.1 o.0 in
      let some : 0 < (decode (words bs)).ids at = b.first ((decode (words bs)).ids at) (b.up_present _ (b.member_up _ member)) in
      record {
        inside = f.0;
        some = some;
        low = omega (arith, f.1, o.1);
        high = omega (arith, f.1, f.2);
        member = member;
        list = rw f.1 (lowest_first s.ids s.bricks.member from to s.given c.places least standing low f.2
            (omega (arith, f.1)) (omega (arith, f.1, b.born at)));
      }

  pub scan_end : (first : Option ℕ) → MatchOption first (least ≡ to) (λ at. (at < c.places) × ((decode (words bs)).ids at ≡ least) × (least < to))
      → NextIn c (decode (words bs)) from to first
  scan_end None h = scan_none h
  scan_end (Some at) h = scan_next at h
