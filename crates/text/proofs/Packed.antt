-- A word as one number: equal numbers come of equal words, so that a kind is found by its word's number.
use mathlib.Core.Path.{◌≡◌, refl, sym, ap, ◌∙◌}
use mathlib.Core.Bool.{Bool, true}
use mathlib.Core.List.{List, [], ◌∷◌}
use Rattle.std.specs.Prelude.{Option, Some, None}
use Prim.Native.Nat.{ℕ, zero, suc, ◌+◌, ◌*◌, ◌^◌, ◌≤◌, ◌<◌}
use native.Mathlib.Nat.{pow-suc}
use native.Mathlib.Numerals.{add-one}
use native.Mathlib.Omega.{arith}
use borrow.Author.Tests.{eq-eqb, ne_eqb, ltb-true}
use lib.Dec.{eqb, ltb}
use lib.ListN.{length, get_or}
use lib.Seq.{ext_get_or}
use Rattle.lists.specs.Tests.{◌and◌, all_below, every, same_numbers}
use Rattle.lists.proofs.Tests.{by, by_lt, clash, and_l, and_r, all_at, same_numbers_eq, same_numbers_self}
use Rattle.rules.specs.Event.{ascii, Kind, kinds}
use Rattle.text.specs.Kinds.{kind_from, kind_of_word, packed_upto, packed, packed_from, kind_of_packed}
use Rattle.text.proofs.Laws.{form_ok, kind_some}

abbrev pub Bytes : List ℕ → ℕ → Type 0
Bytes w n = (i : ℕ) → i < n → get_or w i 0 < 256

packed_least : (w : List ℕ) (n : ℕ) → 1 ≤ packed_upto w n
unfolding packed_upto
packed_least w zero = omega arith
packed_least w (suc n) = omega (arith, packed_least w n)

pub packed_none : (w : List ℕ) → packed_upto w 0 ≡ 1
unfolding packed_upto
packed_none w = refl

-- one byte more
pub packed_turn : (w : List ℕ) (n : ℕ) → packed_upto w (n + 1) ≡ 256 * packed_upto w n + get_or w n 0
unfolding packed_upto
packed_turn w n = rw add-one

packed_more : (w : List ℕ) (n m : ℕ) → n ≤ m → packed_upto w n ≤ packed_upto w m
unfolding packed_upto
packed_more w n zero h = let e : n ≡ 0 = omega arith in rw e (omega arith)
packed_more w n (suc m) h =
    by_lt m n
    (λ _ q. let e : n ≡ suc m = omega arith in rw e (omega arith))
    (λ _ q. omega (arith, packed_more w n m q))

-- so many bytes fit
packed_most : (w : List ℕ) → ((i : ℕ) → get_or w i 0 < 256) → (n : ℕ) → packed_upto w n < 2 * 256 ^ n
unfolding packed_upto
packed_most w b zero = omega arith
packed_most w b (suc n) = rw (pow-suc) (omega (arith, packed_most w b n, b n))

pub packed_fits : (w : List ℕ) → ((i : ℕ) → get_or w i 0 < 256) → (n : ℕ) → n < 7 → packed_upto w n < 2 ^ 55
packed_fits w b n h = omega (arith, packed_more w n 6 (omega arith), packed_most w b 6)

pub packed_agree : (v w : List ℕ) (n : ℕ) → ((i : ℕ) → i < n → get_or v i 0 ≡ get_or w i 0) → packed_upto v n ≡ packed_upto w n
unfolding packed_upto
packed_agree v w zero h = refl
packed_agree v w (suc n) h = rw (packed_agree v w n (λ i q. h i (omega arith)), h n (omega arith))

packed_same : (v w : List ℕ) (n m : ℕ) → Bytes v n → Bytes w m → packed_upto v n ≡ packed_upto w m
    → (n ≡ m) × ((i : ℕ) → i < n → get_or v i 0 ≡ get_or w i 0)
unfolding packed_upto
packed_same v w zero zero bv bw e = (refl, λ i h. absurd (omega arith))
packed_same v w zero (suc m) bv bw e = absurd (omega (arith, packed_least w m))
packed_same v w (suc n) zero bv bw e = absurd (omega (arith, packed_least v n))
packed_same v w (suc n) (suc m) bv bw e =
    let x = bv n (omega arith) in
    let y = bw m (omega arith) in
    let p = packed_same v w n m (λ i q. bv i (omega arith)) (λ i q. bw i (omega arith)) (omega arith) in
    let last : get_or v n 0 ≡ get_or w m 0 = omega arith in (
      ap suc p.0,
      λ i h. by_lt i n (λ _ q. p.1 i q) (λ _ q. let j : i ≡ n = omega arith in rw j (last ∙ ap (λ (k : ℕ). get_or w k 0) (sym p.0))),
    )

module _ (v w : List ℕ) (bv : Bytes v (length v)) (bw : Bytes w (length w)) where
  packed_eq : packed v ≡ packed w → v ≡ w
  unfolding packed
  packed_eq e = let p = packed_same v w (length v) (length w) bv bw e in ext_get_or 0 v w p.0 p.1

  same_packed : same_numbers v w ≡ eqb (packed v) (packed w)
  same_packed =
      by (same_numbers v w)
      (λ t. t ∙ sym (eq-eqb (packed v) (packed w) (ap packed (same_numbers_eq v w t))))
      (λ f. f ∙ sym (ne_eqb (packed v) (packed w) (λ e. clash f (ap (λ (u : List ℕ). same_numbers u w) (packed_eq e) ∙ same_numbers_self w))))

-- ---- the kind by the number

only_bytes : List ℕ → Bool
only_bytes w = all_below (length w) (λ i. ltb (get_or w i 0) 256)

kind_from_packed : (w : List ℕ) → Bytes w (length w) → (fs : List Kind) (k : ℕ) → every (λ f. only_bytes f.word) fs ≡ true
    → kind_from k fs w ≡ packed_from k fs (packed w)
unfolding kind_from packed_from every only_bytes
kind_from_packed w b [] k t = refl
kind_from_packed w b (f ∷ fs) k t =
    let bytes : Bytes f.word (length f.word) = λ i h. ltb-true _ 256 (all_at (length f.word) (λ i. ltb (get_or f.word i 0) 256) (and_l _ _ t) i h) in
    rw (same_packed w f.word b bytes, kind_from_packed w b fs (suc k) (and_r _ _ t))

words_bytes : every (λ f. only_bytes f.word) kinds ≡ true
unfolding every only_bytes all_below ◌and◌ kinds ascii
words_bytes = refl

pub kind_by_number : (w : List ℕ) → Bytes w (length w) → kind_of_word w ≡ kind_of_packed (packed w)
unfolding kind_of_word kind_of_packed
kind_by_number w b = kind_from_packed w b kinds 1 words_bytes

none_but : (o : Option ℕ) → ((k : ℕ) → o ≡ Some k → ⊥) → o ≡ None
none_but None f = refl
none_but (Some k) f = absurd (f k refl)

-- no word is so long
pub too_long : (w : List ℕ) → 7 < length w → kind_of_word w ≡ None
too_long w h =
    none_but (kind_of_word w) (λ k e.
    let q = kind_some w k e in
    let n = (form_ok k q.least q.most).short in
    omega (arith, h, n, ap length q.word))
