-- Fields and the text that they make determine each other.
use mathlib.Core.Path.{◌≡◌, refl, sym, ap, ◌∙◌}
use mathlib.Core.List.{List, [], ◌∷◌, ◌++◌, append_assoc, append-nil}
use Prim.Native.Nat.{ℕ}
use native.Mathlib.Omega.{arith}
use borrow.Author.Tests.{eqb-true, ne_eqb}
use lib.Dec.{eqb}
use Rattle.lists.proofs.Tests.{by}
use Rattle.area.proofs.Each.{Each, Above, each_none, each_more}
use Rattle.text.specs.Fields.{comma, parted, before, fields}

pub parted_append : (fs gs : List (List ℕ)) → parted (fs ++ gs) ≡ parted fs ++ parted gs
unfolding parted
parted_append [] gs = refl
parted_append (f ∷ fs) gs = rw (parted_append fs gs, append_assoc)

pub before_before : (s t : List ℕ) (fs : List (List ℕ)) → before s (before t fs) ≡ before (s ++ t) fs
unfolding before
before_before s t [] = refl
before_before s t (f ∷ fs) = rw append_assoc

pub before_nothing : (f : List ℕ) (fs : List (List ℕ)) → before f ([] ∷ fs) ≡ f ∷ fs
unfolding before
before_nothing f fs = rw append-nil

last_field : (f : List ℕ) → before f (fields []) ≡ f ∷ []
unfolding fields
last_field f = before_nothing f []

pub at_comma : (s : List ℕ) → fields (comma ∷ s) ≡ [] ∷ fields s
unfolding fields
at_comma s = refl

pub at_other : (b : ℕ) (s : List ℕ) → (b ≡ comma → ⊥) → fields (b ∷ s) ≡ before (b ∷ []) (fields s)
unfolding fields
at_other b s h = rw (ne_eqb b comma h)

pub front_nothing : (s : List ℕ) → before [] (fields s) ≡ fields s
unfolding before fields
front_nothing [] = refl
front_nothing (b ∷ s) =
    by (eqb b comma)
    (λ e. rw e)
    (λ e. rw e (before_before [] (b ∷ []) (fields s)))

-- bytes without commas stand in the first field
fields_front : {f : List ℕ} (s : List ℕ) → Above 44 f → fields (f ++ s) ≡ before f (fields s)
fields_front s each_none = sym (front_nothing s)
fields_front s (each_more {x = b} {xs = bs} h r) =
    at_other b (bs ++ s) (λ e. omega arith) ∙ ap (before (b ∷ [])) (fields_front s r) ∙ before_before (b ∷ []) bs (fields s)

-- each field is without commas
abbrev pub Plain : List (List ℕ) → Type 0
Plain = Each (Above 44)

-- fields that are parted by commas are read back
pub fields_there : {f : List ℕ} {fs : List (List ℕ)} → Above 44 f → Plain fs → fields (f ++ parted fs) ≡ f ∷ fs
unfolding parted
fields_there {f} h each_none = fields_front [] h ∙ last_field f
fields_there {f} h (each_more {x = g} {xs = gs} k r) =
    fields_front (comma ∷ (g ++ parted gs)) h ∙ ap (before f) (at_comma (g ++ parted gs) ∙ ap (λ (l : List (List ℕ)). [] ∷ l) (fields_there k r))
    ∙ before_nothing f (g ∷ gs)

-- ---- and back

joined : List (List ℕ) → List ℕ
joined [] = []
joined (f ∷ fs) = f ++ parted fs

-- a text has a first field
pub first : (s : List ℕ) → (f : List ℕ) × (fs : List (List ℕ)) × (fields s ≡ f ∷ fs)
unfolding before fields
first [] = ([], [], refl)
first (b ∷ s) =
    by (eqb b comma)
    (λ e. ([], fields s, rw e))
    (λ e. let r = first s in (b ∷ r.0, r.1, rw (e, r.2)))

joined_comma : (fs : List (List ℕ)) (f : List ℕ) (gs : List (List ℕ)) → fs ≡ f ∷ gs → joined ([] ∷ fs) ≡ comma ∷ joined fs
unfolding joined parted
joined_comma fs f gs e = rw e

joined_other : (b : ℕ) (fs : List (List ℕ)) (f : List ℕ) (gs : List (List ℕ)) → fs ≡ f ∷ gs → joined (before (b ∷ []) fs) ≡ b ∷ joined fs
unfolding joined before
joined_other b fs f gs e = rw e

joined_fields : (s : List ℕ) → joined (fields s) ≡ s
unfolding fields joined parted
joined_fields [] = refl
joined_fields (b ∷ s) =
    let r = first s in
    by (eqb b comma)
    (λ e. rw e (joined_comma (fields s) r.0 r.1 r.2 ∙ ap (λ (l : List ℕ). comma ∷ l) (joined_fields s)
    ∙ ap (λ (k : ℕ). k ∷ s) (sym (eqb-true b comma e))))
    (λ e. rw e (joined_other b (fields s) r.0 r.1 r.2 ∙ ap (λ (l : List ℕ). b ∷ l) (joined_fields s)))

pub fields_back : (s f : List ℕ) (fs : List (List ℕ)) → fields s ≡ f ∷ fs → f ++ parted fs ≡ s
unfolding joined
fields_back s f fs e = ap joined (sym e) ∙ joined_fields s
