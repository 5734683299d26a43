-- Every way of laying values out keeps the number of words, and writing the same value twice is writing it once.
use mathlib.Core.Path.{◌≡◌, refl, sym, ap, ◌∙◌}
use mathlib.Core.List.{List, [], ◌∷◌, ◌++◌}
use Prim.Native.Nat.{ℕ, zero, suc, ◌+◌, ◌*◌, ◌≤◌}
use native.Mathlib.Nat.{suc-mul, zero-mul, mul-le-mul_right}
use native.Mathlib.Omega.{arith}
use lib.ListN.{length, take, drop, length-append, length-drop, length-take}
use lib.Seq.{take_at, drop_at, length-take-le}
use Rattle.lists.specs.Runs.{enc_all, Sized, none, more}
use Rattle.lists.specs.Rows.{over_rows}
use Rattle.lists.proofs.Runs.{length_enc_all}
use Rattle.codec.specs.Codec.{Codec, Two, word, flag, fixed, Reading, via, enc_two, ◌then◌, enc_many, many, Row, table, enc_if_present, if_present}

pub record Lawful {A : Type 0} (c : Codec A) : Type 0 where
  pub keeps : (a : A) (w : List ℕ) → length w ≡ c.size → length (c.enc a w) ≡ c.size
  pub idem : (a : A) (w : List ℕ) → length w ≡ c.size → c.enc a (c.enc a w) ≡ c.enc a w

pub word_law : Lawful word
word_law = record { keeps = λ a w h. refl; idem = λ a w h. refl }

pub flag_law : Lawful flag
flag_law = record { keeps = λ a w h. refl; idem = λ a w h. refl }

pub fixed_law : (n : ℕ) → Lawful (fixed n)
fixed_law n = record { keeps = λ a w h. refl; idem = λ a w h. refl }

pub via_law : {A B : Type 0} {c : Codec A} (r : Reading A B) → Lawful c → Lawful (via r c)
via_law r l = record { keeps = λ b. l.keeps (r.from b); idem = λ b. l.idem (r.from b) }

-- ---- two values
module _ {A B : Type 0} (c : Codec A) (d : Codec B) where
  pub two_is : (x : Two A B) (w : List ℕ) → enc_two c d x w ≡ c.enc x.fst (take c.size w) ++ d.enc x.snd (drop c.size w)
  unfolding enc_two
  two_is x w = refl

  module _ (w : List ℕ) (h : length w ≡ c.size + d.size) where
    pub two_left : length (take c.size w) ≡ c.size
    two_left = length-take-le c.size w (omega arith)

    pub two_right : length (drop c.size w) ≡ d.size
    two_right = length-drop c.size w ∙ omega arith

    module _ (lc : Lawful c) (x : Two A B) where
      pub two_take : take c.size (enc_two c d x w) ≡ c.enc x.fst (take c.size w)
      unfolding enc_two
      two_take = take_at (c.enc x.fst (take c.size w)) (d.enc x.snd (drop c.size w)) c.size (lc.keeps x.fst (take c.size w) two_left)

      pub two_drop : drop c.size (enc_two c d x w) ≡ d.enc x.snd (drop c.size w)
      unfolding enc_two
      two_drop = drop_at (c.enc x.fst (take c.size w)) (d.enc x.snd (drop c.size w)) c.size (lc.keeps x.fst (take c.size w) two_left)

pub then_law : {A B : Type 0} {c : Codec A} {d : Codec B} → Lawful c → Lawful d → Lawful (c then d)
then_law {c = c} {d = d} lc ld = record {
  keeps = λ x w h.
      ap length (two_is c d x w)
      ∙ rw (length-append, lc.keeps x.fst (take c.size w) (two_left c d w h), ld.keeps x.snd (drop c.size w) (two_right c d w h));
  idem = λ x w h.
      two_is c d x (enc_two c d x w)
      ∙ rw (
        two_take c d w h lc x,
        two_drop c d w h lc x,
        lc.idem x.fst (take c.size w) (two_left c d w h),
        ld.idem x.snd (drop c.size w) (two_right c d w h),
      )
      (sym (two_is c d x w));
}

-- ---- many values
module _ {A : Type 0} (c : Codec A) where
  pub many_none : (f : ℕ → A) (w : List ℕ) → enc_many c zero f w ≡ []
  unfolding enc_many
  many_none f w = refl

  pub many_last : (n : ℕ) (f : ℕ → A) (w : List ℕ)
      → enc_many c (suc n) f w ≡ enc_many c n f (take (n * c.size) w) ++ c.enc (f n) (drop (n * c.size) w)
  unfolding enc_many
  many_last n f w = refl

  module _ (n : ℕ) (w : List ℕ) (h : length w ≡ suc n * c.size) where
    whole : length w ≡ n * c.size + c.size
    whole = rw suc-mul at h

    pub many_left : length (take (n * c.size) w) ≡ n * c.size
    many_left = length-take-le (n * c.size) w (omega (arith, whole))

    pub many_right : length (drop (n * c.size) w) ≡ c.size
    many_right = length-drop (n * c.size) w ∙ omega (arith, whole)

  module _ (l : Lawful c) where
    pub many_keeps : (n : ℕ) (f : ℕ → A) (w : List ℕ) → length w ≡ n * c.size → length (enc_many c n f w) ≡ n * c.size
    unfolding enc_many
    many_keeps zero f w h = sym (zero-mul c.size)
    many_keeps (suc n) f w h =
        rw (length-append, many_keeps n f (take (n * c.size) w) (many_left n w h), l.keeps (f n) (drop (n * c.size) w) (many_right n w h), suc-mul)

    module _ (n : ℕ) (f : ℕ → A) (w : List ℕ) (h : length w ≡ suc n * c.size) where
      front : length (enc_many c n f (take (n * c.size) w)) ≡ n * c.size
      front = many_keeps n f (take (n * c.size) w) (many_left n w h)

      pub many_take : take (n * c.size) (enc_many c (suc n) f w) ≡ enc_many c n f (take (n * c.size) w)
      unfolding enc_many
      many_take = take_at (enc_many c n f (take (n * c.size) w)) (c.enc (f n) (drop (n * c.size) w)) (n * c.size) front

      pub many_drop : drop (n * c.size) (enc_many c (suc n) f w) ≡ c.enc (f n) (drop (n * c.size) w)
      unfolding enc_many
      many_drop = drop_at (enc_many c n f (take (n * c.size) w)) (c.enc (f n) (drop (n * c.size) w)) (n * c.size) front

    many_idem : (n : ℕ) (f : ℕ → A) (w : List ℕ) → length w ≡ n * c.size → enc_many c n f (enc_many c n f w) ≡ enc_many c n f w
    many_idem zero f w h = many_none f (enc_many c zero f w) ∙ sym (many_none f w)
    many_idem (suc n) f w h =
        many_last n f (enc_many c (suc n) f w)
        ∙ rw (
          many_take n f w h,
          many_drop n f w h,
          many_idem n f (take (n * c.size) w) (many_left n w h),
          l.idem (f n) (drop (n * c.size) w) (many_right n w h),
        )
        (sym (many_last n f w))

pub many_law : {A : Type 0} {c : Codec A} (n : ℕ) (blank : A) → Lawful c → Lawful (many n blank c)
many_law {c = c} n blank l = record { keeps = many_keeps c l n; idem = many_idem c l n }

-- ---- a table
-- what a row holds is read from its words, and the other way round
pub record Exact {A : Type 0} (r : Row A) : Type 0 where
  pub sized : (a : A) → length (r.write a) ≡ r.size
  pub back : (a : A) → r.read (r.write a) ≡ a
  pub exact : (w : List ℕ) → length w ≡ r.size → r.write (r.read w) ≡ w

-- the words after the first
pub rest_length : (n : ℕ) (w : List ℕ) → length w ≡ 1 + n → length (drop 1 w) ≡ n
rest_length n w h = length-drop 1 w ∙ omega arith

module _ {A : Type 0} {r : Row A} (x : Exact r) where
  pub all_sized : (l : List A) → Sized r.write r.size l
  all_sized [] = none
  all_sized (a ∷ l) = more (x.sized a) (all_sized l)

  module _ (most : ℕ) (l : List A) (w : List ℕ) (h : length w ≡ most * r.size) where
    -- rows cut to at most so many
    abbrev cut : List A
    cut = take most l

    cut_words : length (enc_all r.write cut) ≡ length cut * r.size
    cut_words = length_enc_all r.write r.size (all_sized cut)

    cut_few : length cut * r.size ≤ most * r.size
    cut_few = mul-le-mul_right r.size (rw length-take (omega arith))

    over_keeps : length (over_rows r.size r.write cut w) ≡ most * r.size
    over_keeps = let f = cut_few in rw (length-append, cut_words, length-drop, h) (omega arith)

    over_idem : over_rows r.size r.write cut (over_rows r.size r.write cut w) ≡ over_rows r.size r.write cut w
    over_idem =
        ap (λ (v : List ℕ). enc_all r.write cut ++ v)
        (drop_at (enc_all r.write cut) (drop (length cut * r.size) w) (length cut * r.size) cut_words)

  pub table_law : (most : ℕ) → Lawful (table most r)
  table_law most = record {
    keeps = λ l w h. omega (arith, over_keeps most l (drop 1 w) (rest_length (most * r.size) w h));
    idem = λ l w h. ap (λ (v : List ℕ). length l ∷ v) (over_idem most l (drop 1 w) (rest_length (most * r.size) w h));
  }

-- ---- a value that is present or not
module _ {A : Type 0} (c : Codec A) (law : Lawful c) where
  if_present_keeps : (i : ℕ) (a : A) (w : List ℕ) → length w ≡ c.size → length (enc_if_present c i a w) ≡ c.size
  unfolding enc_if_present
  if_present_keeps zero a w h = h
  if_present_keeps (suc i) a w h = law.keeps a w h

  if_present_idem : (i : ℕ) (a : A) (w : List ℕ) → length w ≡ c.size → enc_if_present c i a (enc_if_present c i a w) ≡ enc_if_present c i a w
  unfolding enc_if_present
  if_present_idem zero a w h = refl
  if_present_idem (suc i) a w h = law.idem a w h

pub if_present_law : {A : Type 0} {c : Codec A} (blank : A) → Lawful c → Lawful (if_present blank c)
if_present_law {c = c} blank law = record {
  keeps = λ x w h. omega (arith, if_present_keeps c law x.fst x.snd (drop 1 w) (rest_length c.size w h));
  idem = λ x w h. ap (λ (v : List ℕ). x.fst ∷ v) (if_present_idem c law x.fst x.snd (drop 1 w) (rest_length c.size w h));
}
