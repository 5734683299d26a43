-- What stores leave of a table's words, over any width: a row more, a row less, another word in a row, the rows of another table, the rows that a test keeps.
use mathlib.Core.Path.{◌≡◌, refl, sym, ap, ◌∙◌}
use mathlib.Core.Bool.{Bool, true, false, cond}
use mathlib.Core.List.{List, [], ◌∷◌, ◌++◌, append_assoc, append-nil}
use Prim.Native.Nat.{ℕ, suc, ◌+◌, ◌*◌, ◌-◌, ◌≤◌, ◌<◌}
use native.Mathlib.Nat.{suc-mul, zero-mul, add-mul, add-zero, suc-add, le_of_lt, le_refl, mul-le-mul_right}
use native.Mathlib.Numerals.{add-one}
use native.Mathlib.Omega.{arith}
use lib.ListN.{length, take, drop, get_or, set, length-append, length-drop, length-set, take-append-drop}
use lib.Seq.{paste, take-take, take-append-le, drop-append-add, take_at, drop_at, drop-drop, take_all, length-take-le, get_or-drop, get_or-take}
use Rattle.lists.specs.Tests.{only}
use Rattle.lists.specs.Runs.{run, on_run, enc_all, Sized}
use Rattle.lists.proofs.Tests.{by, length_only}
use Rattle.lists.proofs.Lists.{only_more}
use Rattle.lists.proofs.Runs.{fits_in, sized_take, sized_only, on_left, on_set, on_within, on_record, enc_all_append, length_enc_all, paste_run, on_by}
use Rattle.lists.proofs.Runs.{run_length}
use Rattle.lists.specs.Rows.{table_words, rows, table_dec, table_enc, row_words}
use Rattle.tables.specs.Tables.{insert_at, without_index, kept_rows, sifting}
use Rattle.lists.proofs.Rows.{length_rows, rows_take, rows_drop, row_at, enc_rows, sized_rows, count_cons, tail_length, in_rows}

-- ---- lists: a run moved up with another in the gap, and a run moved down
-- one element before the list
cons_paste : (n : ℕ) (t s : List ℕ) (q a k : ℕ) → q ≡ suc a → paste (n ∷ t) q s k ≡ n ∷ paste t a s k
cons_paste n t s q a k e = rw (e, suc-add a k)

cons_drop : (n : ℕ) (t : List ℕ) (q a : ℕ) → q ≡ suc a → drop q (n ∷ t) ≡ drop a t
cons_drop n t q a e = rw e

open_run : (t r : List ℕ) (a b w : ℕ) → a + w + b ≤ length t → length r ≡ w
    → paste (paste t (a + w) (drop a t) b) a r w ≡ take a t ++ (r ++ (take b (drop a t) ++ drop (a + w + b) t))
open_run t r a b w h e =
    let l : length (take (a + w) t) ≡ a + w = length-take-le (a + w) t (omega arith) in
    let z : List ℕ = take b (drop a t) ++ drop (a + w + b) t in
    let x : paste t (a + w) (drop a t) b ≡ take (a + w) t ++ z = append_assoc (take (a + w) t) (take b (drop a t)) (drop (a + w + b) t) in
    let f : take a (take (a + w) t ++ z) ≡ take a t = take-append-le a (take (a + w) t) z (omega arith) ∙ take-take a (a + w) t (omega arith) in
    let g : drop (a + w) (take (a + w) t ++ z) ≡ z = drop_at (take (a + w) t) z (a + w) l in
    ap (λ (y : List ℕ). paste y a r w) x ∙ rw (f, g, take_all w r (omega arith)) (append_assoc (take a t) r z)

enc_cons : (r : List ℕ) (l : List (List ℕ)) → enc_all row_words (r ∷ l) ≡ r ++ enc_all row_words l
unfolding enc_all
enc_cons r l = refl

enc_none : enc_all row_words [] ≡ []
unfolding enc_all
enc_none = refl

-- (n - p) rows
rows_between : (p n w : ℕ) → p ≤ n → (n - p) * w ≡ n * w - p * w
rows_between p n w h = let e : p + (n - p) ≡ n = omega arith in let f = rw e at (add-mul p (n - p) w) in omega arith

-- past new words at the front of a run, it is as it was
past : (n : ℕ) (a t : List ℕ) (b : ℕ) → length a ≡ b → (q : ℕ) → 1 + b ≤ q → drop q (n ∷ (a ++ drop b t)) ≡ drop q (n ∷ t)
past n a t b e q h =
    let s : q ≡ suc (length a + (q - 1 - b)) = omega arith in
    let u : q ≡ suc (b + (q - 1 - b)) = omega arith in
    ap (λ (k : ℕ). drop k (n ∷ (a ++ drop b t))) s ∙ drop-append-add a (drop b t) (q - 1 - b) ∙ drop-drop (q - 1 - b) b t
    ∙ sym (ap (λ (k : ℕ). drop k (n ∷ t)) u)

-- one row more at the front
grown : (w n : ℕ) (t : List ℕ) (l l2 : List (List ℕ)) (r : List ℕ) → l2 ≡ l ++ r ∷ [] → length r ≡ w → (q : ℕ) → q ≡ 1 + length l * w
    → length (enc_all row_words l) ≡ length l * w
    → take q (n ∷ (enc_all row_words l ++ drop (length l * w) t)) ++ r ++ drop (q + w) (n ∷ (enc_all row_words l ++ drop (length l * w) t))
    ≡ n ∷ (enc_all row_words l2 ++ drop (length l2 * w) t)
grown w n t l l2 r m lr q eq lk =
    let a : List ℕ = enc_all row_words l in
    let b : ℕ = length l * w in
    let f : take q (n ∷ (a ++ drop b t)) ≡ n ∷ a = take_at (n ∷ a) (drop b t) q (omega arith) in
    let z : q + w ≡ suc (b + w) = omega arith in
    let g : drop (q + w) (n ∷ (a ++ drop b t)) ≡ drop (b + w) t = past n a t b lk (q + w) (omega arith) ∙ ap (λ (k : ℕ). drop k (n ∷ t)) z in
    let e : enc_all row_words l2 ≡ a ++ r = rw m (enc_all_append row_words l (r ∷ []) ∙ rw (enc_cons r [], enc_none, append-nil)) in
    let s : length l2 * w ≡ b + w = rw (m, length-append, add-one (length l), suc-mul) in
    rw (f, g, e, s) (regroup n a r (drop (b + w) t))
  where
    regroup : (n : ℕ) (a r z : List ℕ) → (n ∷ a) ++ r ++ z ≡ n ∷ ((a ++ r) ++ z)
    regroup n a r z = simp append_assoc

module _ (w most : ℕ) (ws : List ℕ) (hl : length ws ≡ table_words w most) (few : get_or ws 0 0 ≤ most) where
  dec_length : length (table_dec w row_words ws) ≡ get_or ws 0 0
  unfolding table_dec
  dec_length = length_rows w row_words (get_or ws 0 0) (drop 1 ws)

  -- rows before and from an index on
  front : (p : ℕ) → p ≤ get_or ws 0 0 → enc_all row_words (take p (table_dec w row_words ws)) ≡ take (p * w) (drop 1 ws)
  unfolding table_dec
  front p h =
      let m = mul-le-mul_right w h in
      let i = in_rows w most ws hl few in
      ap (enc_all row_words) (rows_take w row_words p (get_or ws 0 0) (drop 1 ws) h) ∙ enc_rows w row_words row_words (λ r _. refl) p (drop 1 ws) (omega arith)

  behind : (p : ℕ) → p ≤ get_or ws 0 0 → enc_all row_words (drop p (table_dec w row_words ws)) ≡ take (get_or ws 0 0 * w - p * w) (drop (p * w) (drop 1 ws))
  unfolding table_dec
  behind p h =
      let n = get_or ws 0 0 in
      let m = mul-le-mul_right w h in
      let i = in_rows w most ws hl few in
      let b = rows_between p n w h in
      ap (enc_all row_words) (rows_drop w row_words p n (drop 1 ws) h)
      ∙ enc_rows w row_words row_words (λ r _. refl) (n - p) (drop (p * w) (drop 1 ws)) (rw length-drop (omega arith)) ∙ ap (λ (k : ℕ). take k (drop (p * w) (drop 1 ws))) b

  -- ---- a row more
  pub inserted : (p a e n : ℕ) (r w1 w2 w3 : List ℕ) → p ≤ get_or ws 0 0 → get_or ws 0 0 < most → length r ≡ w → n ≡ get_or ws 0 0 → a ≡ p * w → e ≡ n * w
      → w1 ≡ paste ws (1 + a + w) (drop (1 + a) ws) (e - a) → w2 ≡ paste w1 (1 + a) r (length r) → w3 ≡ set w2 0 (n + 1)
      → w3 ≡ table_enc w row_words (insert_at p r (table_dec w row_words ws)) ws
  unfolding table_enc
  inserted p a e n r w1 w2 w3 hp hn hr en ea ee e1 e2 e3 =
      let t : List ℕ = drop 1 ws in
      let tl = tail_length w most ws hl in
      let i = in_rows w most ws hl few in
      let f = fits_in w hn in
      let m : p * w ≤ get_or ws 0 0 * w = mul-le-mul_right w hp in
      let en2 : e ≡ get_or ws 0 0 * w = rw (ee, en) in
      let c : ws ≡ get_or ws 0 0 ∷ t = count_cons ws (omega arith) in
      let d1 : drop (1 + a) ws ≡ drop a t = ap (drop (1 + a)) c ∙ cons_drop (get_or ws 0 0) t (1 + a) a (omega arith) in
      let x1 : w1 ≡ get_or ws 0 0 ∷ paste t (a + w) (drop a t) (e - a) =
      e1 ∙ rw d1 (ap (λ (v : List ℕ). paste v (1 + a + w) (drop a t) (e - a)) c
      ∙ cons_paste (get_or ws 0 0) t (drop a t) (1 + a + w) (a + w) (e - a) (omega arith)) in
      let x2 : w2 ≡ get_or ws 0 0 ∷ paste (paste t (a + w) (drop a t) (e - a)) a r w =
      e2 ∙ rw (x1, hr) (cons_paste (get_or ws 0 0) (paste t (a + w) (drop a t) (e - a)) r (1 + a) a w (omega arith)) in
      let o = open_run t r a (e - a) w (omega arith) hr in
      let len : length (insert_at p r (table_dec w row_words ws)) ≡ n + 1 =
      simp (length-append, length-drop, length-take-le p (table_dec w row_words ws) (rw dec_length hp)) (omega (arith, dec_length)) in
      let all : enc_all row_words (insert_at p r (table_dec w row_words ws)) ≡ take a t ++ (r ++ take (e - a) (drop a t)) =
      enc_all_append row_words (take p (table_dec w row_words ws)) (r ∷ drop p (table_dec w row_words ws))
      ∙ rw (enc_cons r (drop p (table_dec w row_words ws)), front p hp, behind p hp, ea, en2) in
      let s : (n + 1) * w ≡ a + w + (e - a) = rw (add-one n, suc-mul) (omega arith) in
      e3 ∙ rw (x2, o, len, all, s) (ap (λ (v : List ℕ). (n + 1) ∷ v) (regroup (take a t) r (take (e - a) (drop a t)) (drop (a + w + (e - a)) t)))
    where
      regroup : (x y z u : List ℕ) → x ++ (y ++ (z ++ u)) ≡ (x ++ (y ++ z)) ++ u
      regroup x y z u = simp append_assoc

  -- ---- a row less
  pub removed : (p a e n : ℕ) (w1 w2 : List ℕ) → p < get_or ws 0 0 → suc n ≡ get_or ws 0 0 → a ≡ p * w → e ≡ n * w
      → w1 ≡ paste ws (1 + a) (drop (1 + a + w) ws) (e - a) → w2 ≡ set w1 0 n
      → w2 ≡ table_enc w row_words (without_index p (table_dec w row_words ws)) ws
  unfolding table_enc
  removed p a e n w1 w2 hp en ea ee e1 e2 =
      let t : List ℕ = drop 1 ws in
      let tl = tail_length w most ws hl in
      let i = in_rows w most ws hl few in
      let f = fits_in w hp in
      let c : ws ≡ get_or ws 0 0 ∷ t = count_cons ws (omega arith) in
      let nw : n * w + w ≡ get_or ws 0 0 * w = sym (suc-mul n w) ∙ ap (λ (k : ℕ). k * w) en in
      let d1 : drop (1 + a + w) ws ≡ drop (a + w) t = ap (drop (1 + a + w)) c ∙ cons_drop (get_or ws 0 0) t (1 + a + w) (a + w) (omega arith) in
      let x1 : w1 ≡ get_or ws 0 0 ∷ paste t a (drop (a + w) t) (e - a) =
      e1 ∙ rw d1 (ap (λ (v : List ℕ). paste v (1 + a) (drop (a + w) t) (e - a)) c
      ∙ cons_paste (get_or ws 0 0) t (drop (a + w) t) (1 + a) a (e - a) (omega arith)) in
      let len : length (without_index p (table_dec w row_words ws)) ≡ n =
      simp (length-append, length-drop, length-take-le p (table_dec w row_words ws) (rw dec_length (le_of_lt hp))) (omega (arith, dec_length)) in
      let sp : suc p * w ≡ a + w = suc-mul p w ∙ rw (← ea) in
      let b : get_or ws 0 0 * w - suc p * w ≡ e - a = rw sp (omega arith) in
      let all : enc_all row_words (without_index p (table_dec w row_words ws)) ≡ take a t ++ take (e - a) (drop (a + w) t) =
      enc_all_append row_words (take p (table_dec w row_words ws)) (drop (suc p) (table_dec w row_words ws)) ∙ rw (front p (le_of_lt hp), behind (suc p) hp, b, sp, ea) in
      let s : a + (e - a) ≡ n * w = omega arith in
      e2 ∙ rw (x1, len, all, ← s)

  -- ---- another word in a row
  pub word_set : (i j v q : ℕ) → i < get_or ws 0 0 → j < w → q ≡ 1 + i * w + j
      → set ws q v ≡ table_enc w row_words (set (table_dec w row_words ws) i (set (get_or (table_dec w row_words ws) i []) j v)) ws
  unfolding table_enc table_dec
  word_set i j v q h hj eq =
      let n = get_or ws 0 0 in
      let t : List ℕ = drop 1 ws in
      let tl = tail_length w most ws hl in
      let r = in_rows w most ws hl few in
      let f = fits_in w h in
      let D : List (List ℕ) = rows w row_words n t in
      let c : ws ≡ n ∷ t = count_cons ws (omega arith) in
      let e : enc_all row_words D ≡ take (n * w) t = enc_rows w row_words row_words (λ r _. refl) n t r in
      let le : length (take (n * w) t) ≡ n * w = length-take-le (n * w) t r in
      let s1 : set t (i * w + j) v ≡ on_run (i * w) w (λ x. set x j v) t = sym (on_set (i * w) w j v t (omega arith) hj) in
      let s2 : on_run (i * w) w (λ x. set x j v) t ≡ on_run (i * w) w (λ x. set x j v) (take (n * w) t) ++ drop (n * w) t =
      ap (on_run (i * w) w (λ x. set x j v)) (sym (take-append-drop (n * w) t))
      ∙ on_left (i * w) w (λ x. set x j v) (take (n * w) t) (drop (n * w) t) (omega arith) in
      let lr : length D ≡ n = length_rows w row_words n t in
      let s3 : on_run (i * w) w (λ x. set x j v) (enc_all row_words D) ≡ enc_all row_words (set D i (set (get_or D i []) j v)) =
      on_record row_words w (λ x. set x j v) (λ x. set x j v) [] i (sized_rows w row_words row_words (λ r _. refl) n t r) (rw lr h) refl in
      let qe : q ≡ suc (i * w + j) = omega arith in
      ap (λ (y : List ℕ). set y q v) c ∙ rw (qe, length-set, lr, s1, s2, ← e, s3)

  pub word_at : (i j : ℕ) → i < get_or ws 0 0 → j < w → get_or ws (1 + i * w + j) 0 ≡ get_or (get_or (table_dec w row_words ws) i []) j 0
  unfolding table_dec
  word_at i j h hj =
      let n = get_or ws 0 0 in
      let t : List ℕ = drop 1 ws in
      sym (rw (row_at w row_words n i t [] h, get_or-take w (drop (i * w) t) j 0 hj, get_or-drop (i * w) t j 0, get_or-drop 1 ws (i * w + j) 0)
      (ap (λ (k : ℕ). get_or ws k 0) (omega arith)))

  -- ---- the rows of another table
  pub copied : (vs : List ℕ) → length vs ≡ table_words w most
      → take (1 + get_or ws 0 0 * w) ws ++ drop (1 + get_or ws 0 0 * w) vs ≡ table_enc w row_words (table_dec w row_words ws) vs
  unfolding table_enc table_dec
  copied vs lv =
      let n = get_or ws 0 0 in
      let t : List ℕ = drop 1 ws in
      let r = in_rows w most ws hl few in
      rw (length_rows w row_words n t, enc_rows w row_words row_words (λ r _. refl) n t r, drop-drop (n * w) 1 vs)
      (ap (λ (y : List ℕ). take (1 + n * w) y ++ drop (1 + n * w) vs) (count_cons ws (omega arith))
      ∙ front_cons n t (drop (1 + n * w) vs) (1 + n * w) (n * w) (omega arith))
    where
      front_cons : (x : ℕ) (t z : List ℕ) (q a : ℕ) → q ≡ suc a → take q (x ∷ t) ++ z ≡ x ∷ (take a t ++ z)
      front_cons x t z q a e = rw e

  -- ---- the rows that a test keeps
  module _ (test : List ℕ → Bool) where
    pub kept_few : (i : ℕ) → i ≤ get_or ws 0 0 → length (kept_rows w test i ws) ≤ i
    kept_few i h =
        let z = length_only test (take i (table_dec w row_words ws)) in
        let e : length (take i (table_dec w row_words ws)) ≡ i = length-take-le i (table_dec w row_words ws) (rw dec_length h) in omega arith

    sized_kept : (i : ℕ) → Sized row_words w (kept_rows w test i ws)
    unfolding table_dec
    sized_kept i =
        sized_only row_words w test (sized_take row_words w i (sized_rows w row_words row_words (λ r _. refl) (get_or ws 0 0) (drop 1 ws) (in_rows w most ws hl few)))

    kept_words : (i : ℕ) → length (enc_all row_words (kept_rows w test i ws)) ≡ length (kept_rows w test i ws) * w
    kept_words i = length_enc_all row_words w (sized_kept i)

    pub sift_start : ws ≡ sifting w test 0 ws
    unfolding sifting only enc_all
    sift_start = rw zero-mul (count_cons ws (omega arith))

    -- what lies from row i on is as it was
    rest : (i : ℕ) → i ≤ get_or ws 0 0 → (q : ℕ) → 1 + i * w ≤ q → drop q (sifting w test i ws) ≡ drop q ws
    unfolding sifting
    rest i h q hq =
        let l = kept_rows w test i ws in
        let k : length l * w ≤ i * w = mul-le-mul_right w (kept_few i h) in
        let c : ws ≡ get_or ws 0 0 ∷ drop 1 ws = count_cons ws (omega arith) in
        past (get_or ws 0 0) (enc_all row_words l) (drop 1 ws) (length l * w) (kept_words i) q (omega arith) ∙ sym (ap (drop q) c)

    pub sift_read : (i j : ℕ) → i ≤ get_or ws 0 0 → get_or (sifting w test i ws) (1 + i * w + j) 0 ≡ get_or ws (1 + i * w + j) 0
    sift_read i j h =
        let e = rest i h (1 + i * w + j) (omega arith) in
        let z : 1 + i * w + j ≡ 1 + i * w + j + 0 = omega arith in
        rw z (sym (get_or-drop (1 + i * w + j) (sifting w test i ws) 0 0) ∙ rw e (get_or-drop (1 + i * w + j) ws 0 0))

    words_of_row : (i : ℕ) → i < get_or ws 0 0 → take w (drop (1 + i * w) ws) ≡ get_or (table_dec w row_words ws) i []
    unfolding table_dec
    words_of_row i h = sym (row_at w row_words (get_or ws 0 0) i (drop 1 ws) [] h ∙ ap (take w) (drop-drop (i * w) 1 ws))

    pub sift_no : (i : ℕ) → i < get_or ws 0 0 → test (get_or (table_dec w row_words ws) i []) ≡ false → sifting w test (suc i) ws ≡ sifting w test i ws
    unfolding sifting
    sift_no i h e = rw (only_more test (table_dec w row_words ws) i [] (rw dec_length h), e)

    pub sift_yes : (i q p : ℕ) → i < get_or ws 0 0 → test (get_or (table_dec w row_words ws) i []) ≡ true → q ≡ 1 + length (kept_rows w test i ws) * w → p ≡ 1 + i * w
        → paste (sifting w test i ws) q (drop p (sifting w test i ws)) w ≡ sifting w test (suc i) ws
    unfolding sifting
    sift_yes i q p h e eq ep =
        let l = kept_rows w test i ws in
        let r = get_or (table_dec w row_words ws) i [] in
        let k : length l * w ≤ i * w = mul-le-mul_right w (kept_few i (le_of_lt h)) in
        let f = fits_in w h in
        let n = in_rows w most ws hl few in
        let lt = length-drop 1 ws in
        let m : kept_rows w test (suc i) ws ≡ l ++ r ∷ [] = only_more test (table_dec w row_words ws) i [] (rw dec_length h) ∙ rw e in
        let d : take w (drop p (sifting w test i ws)) ≡ r = rw (rest i (le_of_lt h) p (omega arith), ep) (words_of_row i h) in
        let lr : length r ≡ w = ap length (sym (words_of_row i h)) ∙ run_length (1 + i * w) w ws (omega arith) in
        ap (λ (x : List ℕ). take q (sifting w test i ws) ++ x ++ drop (q + w) (sifting w test i ws)) d
        ∙ grown w (get_or ws 0 0) (drop 1 ws) l (kept_rows w test (suc i) ws) r m lr q eq (kept_words i)

    pub sift_end : (i : ℕ) → i ≡ get_or ws 0 0 → set (sifting w test i ws) 0 (length (kept_rows w test i ws)) ≡ table_enc w row_words (only test (table_dec w row_words ws)) ws
    unfolding sifting table_enc
    sift_end i e = rw (take_all i (table_dec w row_words ws) (rw (dec_length, e) (le_refl (get_or ws 0 0))))

    pub kept_next : (i k : ℕ) → i < get_or ws 0 0 → k ≡ length (kept_rows w test i ws)
        → cond (test (get_or (table_dec w row_words ws) i [])) (k + 1) k ≡ length (kept_rows w test (suc i) ws)
    kept_next i k h e =
        rw (only_more test (table_dec w row_words ws) i [] (rw dec_length h))
        (by (test (get_or (table_dec w row_words ws) i [])) (λ q. rw (q, e, length-append) refl) (λ q. rw (q, e)))

    pub no_kept : 0 ≡ length (kept_rows w test 0 ws)
    unfolding only
    no_kept = refl

-- ---- a table copied over another, both in one list of words
pub copied_run : (w most from to n : ℕ) (ws vs : List ℕ) → from + table_words w most ≤ length ws → to + table_words w most ≤ length ws → get_or ws from 0 ≤ most
    → n ≡ get_or ws from 0 → vs ≡ paste ws to (drop from ws) (1 + n * w)
    → vs ≡ on_run to (table_words w most) (table_enc w row_words (table_dec w row_words (run from (table_words w most) ws))) ws
unfolding on_run
copied_run w most from to n ws vs hf ht few en e =
    let size : ℕ = table_words w most in
    let k : ℕ = 1 + n * w in
    let t : List ℕ = run from size ws in
    let v : List ℕ = run to size ws in
    let lt : length t ≡ size = run_length from size ws hf in
    let lv : length v ≡ size = run_length to size ws ht in
    let c : get_or t 0 0 ≡ n = get_or-take size (drop from ws) 0 0 (omega arith) ∙ get_or-drop from ws 0 0 ∙ rw (add-zero from, en) in
    let g : n * w ≤ most * w = mul-le-mul_right w (omega arith) in
    let x : take k (drop from ws) ≡ take k t = sym (take-take k size (drop from ws) (omega arith)) in
    let one = rw c at (copied w most t lt (omega arith) v lv) in
    e ∙ paste_run ws to (drop from ws) k
    ∙ rw (add-zero to) at (sym (on_within to size 0 k (λ _. take k (drop from ws)) ws ht (omega arith)))
    ∙ on_by to size (on_run 0 k (λ _. take k (drop from ws))) (table_enc w row_words (table_dec w row_words t)) ws (ap (λ (y : List ℕ). y ++ drop k v) x ∙ one)
