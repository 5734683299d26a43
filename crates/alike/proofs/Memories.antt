-- What a primary has in memory, where its brick stands at a place and where it stands nowhere.
use mathlib.Core.Path.{◌≡◌, refl, sym, ap, subst, ◌∙◌}
use mathlib.Core.List.{List, [], ◌∷◌}
use mathlib.Core.Bool.{true}
use Prim.Native.Nat.{ℕ}
use native.Mathlib.Omega.{arith}
use lib.Dec.{eqb}
use lib.ListN.{length, get_or, drop}
use Rattle.lists.specs.Rows.{table_dec}
use Rattle.lists.proofs.Tests.{by_eq}
use Rattle.lists.proofs.Rows.{length_rows}
use Rattle.words.specs.Words.{words}
use Rattle.rules.specs.declared.settings.Settings.{Settings}
use Rattle.rules.specs.Entries.{Entry}
use Rattle.rules.specs.State.{State}
use Rattle.rules.specs.Sound.{same_entries}
use Rattle.layout.specs.Contents.{entry_row, Brick, blank_brick}
use Rattle.layout.specs.Layout.{entries_codec}
use Rattle.layout.specs.Store.{brick_in}
use Rattle.std.proofs.Common.{Option, Some, None}
use Rattle.lent.specs.Places.{Stands, PlaceOf}
use Rattle.lent.specs.Parts.{CopyPart}
use Rattle.alike.specs.Alike.{same_primary}

-- ---- where a look-up found a bucket's primary
module _ (c : Settings) (s : State) (g : ℕ) where
  pub stands : {place : ℕ} {r : Option ℕ} → r ≡ Some place → PlaceOf c s (s.bucket g).primary r → Stands c s (s.bucket g).primary place
  stands e h = subst (PlaceOf c s (s.bucket g).primary) e h

  pub nowhere : {r : Option ℕ} → r ≡ None → PlaceOf c s (s.bucket g).primary r → brick_in s (s.bucket g).primary ≡ blank_brick
  nowhere e h = subst (PlaceOf c s (s.bucket g).primary) e h

-- ---- no entries
none_same : (l : List Entry) → eqb (length l) 0 ≡ same_entries l []
unfolding same_entries
none_same [] = refl
none_same (e ∷ l) = by_eq (length (e ∷ l)) 0 (λ _ z. absurd (omega arith)) (λ q _. q)

none_turned : (l : List Entry) → same_entries l [] ≡ same_entries [] l
unfolding same_entries
none_turned [] = refl
none_turned (e ∷ l) = refl

-- by its count
pub count_none : (most : ℕ) (l : List Entry) (part : List ℕ) → CopyPart most l part → eqb (get_or (words part) 0 0) 0 ≡ same_entries l []
unfolding table_dec
count_none most l part h =
    ap (λ (n : ℕ). eqb n 0) (sym (length_rows 2 entry_row.read (get_or (words part) 0 0) (drop 1 (words part))))
    ∙ none_same ((entries_codec most).dec (words part)) ∙ ap (λ (k : List Entry). same_entries k []) h.same

-- ---- a bucket's primaries: each stands at a place, or nowhere
module _ (s t : State) (g : ℕ) where
  pub first_stands : (p : ℕ) → s.ids p ≡ (s.bucket g).primary → brick_in t (t.bucket g).primary ≡ blank_brick
      → same_entries ((s.bucket g).memory (s.ids p)) [] ≡ same_primary s t g
  first_stands p a b = let n : (t.bucket g).memory (t.bucket g).primary ≡ [] = ap (λ (k : Brick). (k.copies g).memory) b in rw (a, n)

  pub second_stands : (q : ℕ) → brick_in s (s.bucket g).primary ≡ blank_brick → t.ids q ≡ (t.bucket g).primary
      → same_entries ((t.bucket g).memory (t.ids q)) [] ≡ same_primary s t g
  second_stands q a b =
      let n : (s.bucket g).memory (s.bucket g).primary ≡ [] = ap (λ (k : Brick). (k.copies g).memory) a in
      none_turned ((t.bucket g).memory (t.ids q)) ∙ rw (b, n)

  pub none_stand : brick_in s (s.bucket g).primary ≡ blank_brick → brick_in t (t.bucket g).primary ≡ blank_brick → true ≡ same_primary s t g
  unfolding same_entries
  none_stand a b =
      let m : (s.bucket g).memory (s.bucket g).primary ≡ [] = ap (λ (k : Brick). (k.copies g).memory) a in
      let n : (t.bucket g).memory (t.bucket g).primary ≡ [] = ap (λ (k : Brick). (k.copies g).memory) b in
      rw (m, n)
