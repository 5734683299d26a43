-- Laws of the table of kinds.
use mathlib.Core.Path.{◌≡◌, refl, sym, ap, ◌∙◌}
use mathlib.Core.Bool.{Bool, true}
use mathlib.Core.List.{List, [], ◌∷◌}
use Rattle.std.specs.Prelude.{Option, Some, None, unwrap_or}
use Prim.Native.Nat.{ℕ, zero, suc, ◌+◌, ◌≤◌, ◌<◌}
use native.Mathlib.Nat.{add-zero}
use native.Mathlib.Omega.{arith}
use borrow.Author.Tests.{eqb-true, leb-true, ltb-true}
use lib.Dec.{eqb, leb, ltb}
use lib.ListN.{length, get_or}
use Rattle.lists.specs.Tests.{◌and◌, all_below, every, same_numbers}
use Rattle.lists.proofs.Tests.{by, and_l, and_r, all_at, same_numbers_eq}
use Rattle.area.proofs.Each.{Above, each_of}
use Rattle.rules.specs.Event.{kind_count, ascii, Kind, kinds, no_kind, kind_at}
use Rattle.rules.proofs.Event.{kinds_count}
use Rattle.text.specs.Kinds.{kind_from, kind_of_word}
use Rattle.text.specs.Table.{shape_of}
use Rattle.text.specs.declared.Shape.{Shape}

-- ---- every row of the table

-- the word finds its own kind, is short and has no comma; at most three numbers follow
row_ok : ℕ → Kind → Bool
row_ok k f =
    eqb (unwrap_or (kind_of_word f.word) 0) k and leb (length f.word) 7 and every (λ b. ltb 44 b) f.word and leb f.numbers 3

rows : (i : ℕ) → i < kind_count → row_ok (suc i) (kind_at (suc i)) ≡ true
unfolding row_ok ◌and◌ all_below every kind_of_word kind_from same_numbers kind_at kinds ascii
rows i h = all_at kind_count (λ k. row_ok (suc k) (kind_at (suc k))) refl i h

pub record KindOk (k : ℕ) : Type 0 where
  pub kind : kind_of_word (kind_at k).word ≡ Some k
  pub short : length (kind_at k).word ≤ 7
  pub plain : Above 44 (kind_at k).word
  pub few : (kind_at k).numbers ≤ 3

number_some : (o : Option ℕ) (k : ℕ) → 1 ≤ k → unwrap_or o 0 ≡ k → o ≡ Some k
number_some None k h e = absurd (omega arith)
number_some (Some j) k h e = ap Some e

opened : (k : ℕ) → 1 ≤ k → row_ok k (kind_at k) ≡ true → KindOk k
unfolding row_ok
opened k h t =
    let t1 = and_l _ _ t in
    let t0 = and_l _ _ t1 in
    let w = (kind_at k).word in
    record {
      kind = number_some (kind_of_word w) k h (eqb-true (unwrap_or (kind_of_word w) 0) k (and_l _ _ t0));
      short = leb-true (length w) 7 (and_r _ _ t0);
      plain = each_of (λ (b : ℕ). 44 < b) (λ b. ltb 44 b) (λ b. ltb-true 44 b) w (and_r _ _ t1);
      few = leb-true (kind_at k).numbers 3 (and_r _ _ t);
    }

pub form_ok : (k : ℕ) → 1 ≤ k → k ≤ kind_count → KindOk k
form_ok zero h g = absurd (omega arith)
form_ok (suc i) h g = opened (suc i) h (rows i (omega arith))

-- ---- the kind of a word

kind_in_some : (fs : List Kind) (k j : ℕ) (w : List ℕ) → kind_from k fs w ≡ Some j
    → (i : ℕ) × (j ≡ k + i) × (i < length fs) × ((get_or fs i no_kind).word ≡ w)
unfolding kind_from
kind_in_some [] k j w e = let z : ◌≡◌ {A = ℕ} 0 1 = cc in absurd (omega arith)
kind_in_some (f ∷ fs) k j w e =
    by (same_numbers w f.word)
    (λ p.
    let g : Some k ≡ Some j = rw p at e in
    let s : j ≡ k = cc in
    (0, rw add-zero s, omega arith, sym (same_numbers_eq w f.word p)))
    (λ p.
    let r = kind_in_some fs (suc k) j w (rw p at e) in
    (suc r.0, omega (arith, r.1), omega (arith, r.2), r.3))

pub record KindIs (w : List ℕ) (k : ℕ) : Type 0 where
  pub least : 1 ≤ k
  pub most : k ≤ kind_count
  pub word : (kind_at k).word ≡ w

pub kind_some : (w : List ℕ) (k : ℕ) → kind_of_word w ≡ Some k → KindIs w k
unfolding kind_of_word kind_at
kind_some w k e =
    let r = kind_in_some kinds 1 k w e in
    let s : k ≡ suc r.0 = omega (arith, r.1) in
    record { least = omega arith; most = omega (arith, r.2, kinds_count); word = ap (λ (j : ℕ). (kind_at j).word) s ∙ r.3 }

-- ---- a row

pub row_len : (f : Kind) (r : Shape) → r ≡ shape_of f → r.len ≡ length f.word
unfolding shape_of
row_len f r e = rw e

pub row_numbers : (f : Kind) (r : Shape) → r ≡ shape_of f → r.numbers ≡ f.numbers
unfolding shape_of
row_numbers f r e = rw e

pub row_payload : (f : Kind) (r : Shape) → r ≡ shape_of f → r.payload ≡ f.payload
unfolding shape_of
row_payload f r e = rw e
