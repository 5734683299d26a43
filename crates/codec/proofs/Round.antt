-- There and back, for each way of laying values out: which words are clean, and which values are read back.
use mathlib.Core.Path.{◌≡◌, refl, sym, ap, ◌∙◌, fun_ext}
use mathlib.Core.List.{List, [], ◌∷◌, Memᴰ}
use mathlib.Core.Bool.{Bool, true, false, cond}
use Prim.Native.Nat.{ℕ, zero, suc, ◌+◌, ◌*◌, ◌≤◌, ◌<◌}
use native.Mathlib.Nat.{suc-mul, zero-mul, add-zero, le_refl, le_of_lt, mul-le-mul_right}
use native.Mathlib.Omega.{arith}
use lib.Dec.{eqb, lit<}
use borrow.Author.Tests.{lt-ltb}
use lib.ListN.{length, take, drop, get_or, take-append-drop}
use lib.Seq.{take_all, drop-cons, get_or-take, get_or-drop}
use Rattle.lists.specs.Runs.{run, nth_run, Below, none, more}
use Rattle.lists.specs.Rows.{rows, over_rows, table_dec}
use Rattle.lists.proofs.Tests.{by_eq, by_lt}
use Rattle.lists.proofs.Runs.{fits_in, run_length, run_front, run_all, below_append, below_take, below_drop, below_enc_all}
use Rattle.lists.proofs.Rows.{length_rows, rows_take, enc_rows, rows_back}
use Rattle.codec.specs.Codec.{Codec, Clean, Fits, word_limit, word, flag, fixed, Reading, via, Two, enc_two, ◌then◌, enc_many, many, Row, table, enc_if_present, if_present}
use Rattle.codec.proofs.Laws.{Lawful, two_is, two_left, two_right, two_take, two_drop, many_none, many_last, many_left, many_right}
use Rattle.codec.proofs.Laws.{Exact, all_sized, rest_length}
use Rattle.codec.proofs.Focus.{Focus, part_of, clean_part, nth, if_present_none, if_present_some}

-- ---- words that are clean: where something holds of them, or whatever they hold
pub record CleanIf {A : Type 0} (c : Codec A) (P : List ℕ → Type 0) : Type 0 where
  pub clean : (w : List ℕ) → length w ≡ c.size → P w → Clean c w

abbrev pub Any : List ℕ → Type 0
Any w = Unit {0}

pub nil_of : (w : List ℕ) → length w ≡ 0 → [] ≡ w
nil_of [] h = refl
nil_of (x ∷ w) h = absurd (omega arith)

one_of : (w : List ℕ) → length w ≡ 1 → get_or w 0 0 ∷ [] ≡ w
one_of [] h = absurd (omega arith)
one_of (x ∷ w) h = ap (λ (v : List ℕ). x ∷ v) (nil_of w (omega arith))

pub clean_word : CleanIf word Any
clean_word = record { clean = λ w h _. one_of w h }

-- a flag's word is 0 or 1
flag_kept : (a : ℕ) → a ≤ 1 → cond (eqb a 1) 1 0 ≡ a
flag_kept zero h = refl
flag_kept (suc zero) h = refl
flag_kept (suc (suc a)) h = absurd (omega arith)

flag_small : (b : Bool) → cond b 1 0 ≤ 1
flag_small true = omega arith
flag_small false = omega arith

pub clean_flag : CleanIf flag (λ w. get_or w 0 0 ≤ 1)
clean_flag = record { clean = λ w h g. ap (λ (a : ℕ). a ∷ []) (flag_kept (get_or w 0 0) g) ∙ one_of w h }

-- so a flag of clean words is
pub flag_part : {A : Type 0} {c : Codec A} (f : Focus c flag) (w : List ℕ) → length w ≡ c.size → f.Else (c.dec w) (c.dec w) → Clean c w
    → get_or w f.off 0 ≤ 1
flag_part f w h e k =
    rw (get_or-take 1 (drop f.off w) 0 0 (omega arith), get_or-drop f.off w 0 0, add-zero f.off) at (small (run f.off 1 w) (clean_part f w h e k))
  where
    small : (v : List ℕ) → Clean flag v → get_or v 0 0 ≤ 1
    small v k = let e : cond (eqb (get_or v 0 0) 1) 1 0 ≡ get_or v 0 0 = ap (λ (l : List ℕ). get_or l 0 0) k in omega (arith, flag_small (eqb (get_or v 0 0) 1))

pub clean_fixed : (n : ℕ) → CleanIf (fixed n) (λ w. get_or w 0 0 ≡ n)
clean_fixed n = record { clean = λ w h e. ap (λ (a : ℕ). a ∷ []) (sym e) ∙ one_of w h }

pub fixed_part : {A : Type 0} {c : Codec A} {n : ℕ} (f : Focus c (fixed n)) (w : List ℕ) → length w ≡ c.size → f.Else (c.dec w) (c.dec w) → Clean c w
    → get_or w f.off 0 ≡ n
fixed_part {n = n} f w h e k =
    let first : n ≡ get_or (run f.off 1 w) 0 0 = ap (λ (l : List ℕ). get_or l 0 0) (clean_part f w h e k) in
    sym (rw (get_or-take 1 (drop f.off w) 0 0 (omega arith), get_or-drop f.off w 0 0, add-zero f.off) at first)

pub clean_via : {A B : Type 0} {c : Codec A} {P : List ℕ → Type 0} (r : Reading A B) → ((a : A) → r.from (r.to a) ≡ a) → CleanIf c P → CleanIf (via r c) P
clean_via {c = c} r e k = record { clean = λ w h p. ap (λ a. c.enc a w) (e (c.dec w)) ∙ k.clean w h p }

pub clean_two : {A B : Type 0} {c : Codec A} {d : Codec B} {P Q : List ℕ → Type 0} → CleanIf c P → CleanIf d Q
    → CleanIf (c then d) (λ w. P (take c.size w) × Q (drop c.size w))
clean_two {c = c} {d = d} k l = record {
  clean = λ w h p.
      two_is c d ((c then d).dec w) w
      ∙ rw (k.clean (take c.size w) (two_left c d w h) p.0, l.clean (drop c.size w) (two_right c d w h) p.1) (take-append-drop c.size w);
}

many_clean : {A : Type 0} (c : Codec A) (n : ℕ) (f : ℕ → A) (w : List ℕ) → length w ≡ n * c.size
    → ((i : ℕ) → i < n → c.enc (f i) (nth_run c.size i w) ≡ nth_run c.size i w) → enc_many c n f w ≡ w
many_clean c zero f w h e = many_none c f w ∙ nil_of w (h ∙ zero-mul c.size)
many_clean c (suc n) f w h e =
    let l = many_left c n w h in
    let r = many_right c n w h in
    let front : enc_many c n f (take (n * c.size) w) ≡ take (n * c.size) w =
    many_clean c n f (take (n * c.size) w) l
    (λ i p. rw (run_front (i * c.size) c.size (n * c.size) w (omega (arith, suc-mul n c.size)) (fits_in c.size p)) (e i (omega arith))) in
    let last : c.enc (f n) (drop (n * c.size) w) ≡ drop (n * c.size) w = rw (run_all c.size (drop (n * c.size) w) r) at (e n (omega arith)) in
    many_last c n f w ∙ rw (front, last) (take-append-drop (n * c.size) w)

part_long : (size n i : ℕ) (w : List ℕ) → i < n → length w ≡ n * size → length (nth_run size i w) ≡ size
part_long size n i w p h = run_length (i * size) size w (omega (arith, fits_in size p))

pub clean_many : {A : Type 0} {c : Codec A} {P : List ℕ → Type 0} (n : ℕ) (blank : A) → CleanIf c P
    → CleanIf (many n blank c) (λ w. (i : ℕ) → i < n → P (nth_run c.size i w))
clean_many {c = c} n blank k = record {
  clean = λ w h e.
      many_clean c n ((many n blank c).dec w) w h (λ i p. rw (lt-ltb i n p) (k.clean (nth_run c.size i w) (part_long c.size n i w p h) (e i p)));
}

-- a table is clean whatever its words are; a count of more rows than there are names all of them
module _ {A : Type 0} {r : Row A} (x : Exact r) (most : ℕ) where
  rows_clean : (n k : ℕ) (w : List ℕ) → length w ≡ most * r.size → k ≤ most → take most (rows r.size r.read n w) ≡ rows r.size r.read k w
      → over_rows r.size r.write (take most (rows r.size r.read n w)) w ≡ w
  rows_clean n k w h few e =
      let i : k * r.size ≤ length w = rw h (mul-le-mul_right r.size few) in
      rw (e, length_rows r.size r.read k w, enc_rows r.size r.read r.write x.exact k w i) (take-append-drop (k * r.size) w)

  any_rows : (n : ℕ) (w : List ℕ) → length w ≡ most * r.size → over_rows r.size r.write (take most (rows r.size r.read n w)) w ≡ w
  any_rows n w h =
      by_lt most n (λ _ l. rows_clean n most w h (le_refl most) (rows_take r.size r.read most n w (le_of_lt l)))
      (λ _ l. rows_clean n n w h l (take_all most (rows r.size r.read n w) (rw (length_rows r.size r.read n w) l)))

  pub clean_table : CleanIf (table most r) Any
  unfolding table_dec
  clean_table = record {
    clean = λ w h _.
        rw (length_rows r.size r.read (get_or w 0 0) (drop 1 w), any_rows (get_or w 0 0) (drop 1 w) (rest_length (most * r.size) w h))
        (sym (drop-cons w 0 0 (omega arith)));
  }

-- where none is present, the words are not in use
pub clean_if_present : {A : Type 0} {c : Codec A} {P : List ℕ → Type 0} (blank : A) → CleanIf c P → CleanIf (if_present blank c) (λ w. 0 < get_or w 0 0 → P (drop 1 w))
clean_if_present {c = c} {P} blank k = record { clean = at }
  where
    at : (w : List ℕ) → length w ≡ 1 + c.size → (0 < get_or w 0 0 → P (drop 1 w)) → Clean (if_present blank c) w
    at w h e =
        let l : 0 < length w = omega arith in
        by_eq (get_or w 0 0) 0
        (λ q z. rw q (ap (λ (v : List ℕ). get_or w 0 0 ∷ v) (if_present_none c (get_or w 0 0) blank (drop 1 w) z) ∙ sym (drop-cons w 0 0 l)))
        (λ q z. let p : 0 < get_or w 0 0 = omega arith in
        rw q (ap (λ (v : List ℕ). get_or w 0 0 ∷ v)
        (if_present_some c (get_or w 0 0) (c.dec (drop 1 w)) (drop 1 w) p ∙ k.clean (drop 1 w) (rest_length c.size w h) (e p)) ∙ sym (drop-cons w 0 0 l)))

-- ---- values that are read back
pub fits_word : (a : ℕ) → a < word_limit → Fits word a
fits_word a l = record { back = λ w h. refl; small = λ w h b. more l none }

pub fits_flag : (a : Bool) → Fits flag a
fits_flag true = record { back = λ w h. refl; small = λ w h b. more (lit< tt) none }
fits_flag false = record { back = λ w h. refl; small = λ w h b. more (lit< tt) none }

pub fits_fixed : (n : ℕ) → n < word_limit → Fits (fixed n) tt
fits_fixed n l = record { back = λ w h. refl; small = λ w h b. more l none }

pub fits_via : {A B : Type 0} (r : Reading A B) (c : Codec A) (b : B) → r.to (r.from b) ≡ b → Fits c (r.from b) → Fits (via r c) b
fits_via r c b e f = record { back = λ w h. ap r.to (f.back w h) ∙ e; small = f.small }

pub fits_two : {A B : Type 0} {c : Codec A} {d : Codec B} → Lawful c → {x : Two A B} → Fits c x.fst → Fits d x.snd → Fits (c then d) x
fits_two {c = c} {d = d} l {x} f g = record { back = back; small = small }
  where
    back : (w : List ℕ) → length w ≡ c.size + d.size → (c then d).dec (enc_two c d x w) ≡ x
    back w h =
        rw (
          two_take c d w h l x,
          two_drop c d w h l x,
          f.back (take c.size w) (two_left c d w h),
          g.back (drop c.size w) (two_right c d w h),
        )

    small : (w : List ℕ) → length w ≡ c.size + d.size → Below word_limit w → Below word_limit (enc_two c d x w)
    small w h b =
        rw (two_is c d x w) (below_append (f.small (take c.size w) (two_left c d w h) (below_take c.size b))
        (g.small (drop c.size w) (two_right c d w h) (below_drop c.size b)))

module _ {A : Type 0} (c : Codec A) (law : Lawful c) where
  many_small : (n : ℕ) (f : ℕ → A) → ((i : ℕ) → i < n → Fits c (f i)) → (w : List ℕ) → length w ≡ n * c.size → Below word_limit w
      → Below word_limit (enc_many c n f w)
  many_small zero f e w h b = rw (many_none c f w) none
  many_small (suc n) f e w h b =
      rw (many_last c n f w)
      (below_append (many_small n f (λ i p. e i (omega arith)) (take (n * c.size) w) (many_left c n w h) (below_take (n * c.size) b))
      ((e n (omega arith)).small (drop (n * c.size) w) (many_right c n w h) (below_drop (n * c.size) b)))

  pub fits_many : (n : ℕ) (blank : A) (f : ℕ → A) → ((i : ℕ) → i < n → Fits c (f i)) → ((i : ℕ) → n ≤ i → f i ≡ blank) → Fits (many n blank c) f
  fits_many n blank f e b = record { back = λ w h. fun_ext (at w h); small = many_small n f e }
    where
      at : (w : List ℕ) → length w ≡ n * c.size → (i : ℕ) → (many n blank c).dec (enc_many c n f w) i ≡ f i
      at w h i = by_lt i n
          (λ q p. rw q (ap c.dec (part_of (nth law n blank i p) f w h (λ j s z. refl)) ∙ (e i p).back (nth_run c.size i w) (part_long c.size n i w p h)))
          (λ q p. rw q (sym (b i p)))

module _ {A : Type 0} {r : Row A} (x : Exact r) where
  pub fits_table : (most : ℕ) (l : List A) → most < word_limit → length l ≤ most → ((a : A) → Memᴰ a l → Below word_limit (r.write a))
      → Fits (table most r) l
  unfolding table_dec
  fits_table most l m h e = record {
    back = λ w g.
        rw (take_all most l h) (rows_back r.size r.read r.write x.back (all_sized x l) (drop (length l * r.size) (drop 1 w)));
    small = λ w g b.
        rw (take_all most l h)
        (more {b = length l} (omega arith) (below_append (below_enc_all r.write l e) (below_drop (length l * r.size) (below_drop 1 b))));
  }

module _ {A : Type 0} (c : Codec A) where
  pub fits_if_present : (blank : A) (x : Two ℕ A) → x.fst < word_limit → (0 < x.fst → Fits c x.snd) → (x.fst ≡ 0 → x.snd ≡ blank)
      → Fits (if_present blank c) x
  fits_if_present blank x m f e = record { back = back; small = λ w h b. more m (small (drop 1 w) (rest_length c.size w h) (below_drop 1 b)) }
    where
      back : (w : List ℕ) → length w ≡ 1 + c.size → (if_present blank c).dec ((if_present blank c).enc x w) ≡ x
      back w h =
          by_eq x.fst 0
          (λ q z. ap (λ (a : A). record { fst = x.fst; snd = a }) (rw q (sym (e z))))
          (λ q z. ap (λ (a : A). record { fst = x.fst; snd = a })
          (rw (q, if_present_some c x.fst x.snd (drop 1 w) (omega arith)) ((f (omega arith)).back (drop 1 w) (rest_length c.size w h))))

      small : (w : List ℕ) → length w ≡ c.size → Below word_limit w → Below word_limit (enc_if_present c x.fst x.snd w)
      small w h b =
          by_eq x.fst 0 (λ q z. rw (if_present_none c x.fst x.snd w z) b)
          (λ q z. rw (if_present_some c x.fst x.snd w (omega arith)) ((f (omega arith)).small w h b))
