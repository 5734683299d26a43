-- Laws of rows in words: by place, one after the other, and a table read and written.
use mathlib.Core.Path.{◌≡◌, refl, sym, ap, ◌∙◌}
use mathlib.Core.List.{List, [], ◌∷◌, ◌++◌, append_assoc, map}
use Prim.Native.Nat.{ℕ, zero, suc, ◌+◌, ◌*◌, ◌-◌, ◌≤◌, ◌<◌}
use native.Mathlib.Nat.{suc-mul, zero-mul, add_comm, le_of_suc-le-suc, not-suc-le-zero, mul-le-mul_right}
use native.Mathlib.Numerals.{add-one}
use native.Mathlib.Omega.{arith}
use lib.ListN.{length, take, drop, get_or, length-drop, length-map}
use lib.Seq.{drop-append-add, take-add, take_at, drop_at, drop-drop, drop-cons, drop-length, length-take-le}
use Rattle.lists.specs.Runs.{nth_run, enc_all, Sized, none, more}
use Rattle.lists.specs.Rows.{table_words, rows, table_dec, table_enc, row_words}
use Rattle.lists.proofs.Runs.{length_enc_all}

-- ---- rows by place
module _ {A : Type 0} (w : ℕ) (read : List ℕ → A) where
  pub length_rows : (n : ℕ) (ws : List ℕ) → length (rows w read n ws) ≡ n
  unfolding rows
  length_rows zero ws = refl
  length_rows (suc n) ws = ap suc (length_rows n (drop w ws))

  pub rows_take : (p n : ℕ) (ws : List ℕ) → p ≤ n → take p (rows w read n ws) ≡ rows w read p ws
  unfolding rows
  rows_take zero n ws h = refl
  rows_take (suc p) zero ws h = absurd (not-suc-le-zero h)
  rows_take (suc p) (suc n) ws h = rw (rows_take p n (drop w ws) (le_of_suc-le-suc h))

  pub rows_drop : (p n : ℕ) (ws : List ℕ) → p ≤ n → drop p (rows w read n ws) ≡ rows w read (n - p) (drop (p * w) ws)
  unfolding rows
  rows_drop zero n ws h = let e : n - 0 ≡ n = omega arith in rw (e, zero-mul)
  rows_drop (suc p) zero ws h = absurd (not-suc-le-zero h)
  rows_drop (suc p) (suc n) ws h =
      let e : suc n - suc p ≡ n - p = omega arith in
      rw (rows_drop p n (drop w ws) (le_of_suc-le-suc h), drop-drop (p * w) w ws, e, suc-mul p w, add_comm (p * w) w)

  pub row_at : (n j : ℕ) (ws : List ℕ) (d : A) → j < n → get_or (rows w read n ws) j d ≡ read (nth_run w j ws)
  unfolding rows
  row_at zero j ws d h = absurd (not-suc-le-zero h)
  row_at (suc n) zero ws d h = rw zero-mul
  row_at (suc n) (suc j) ws d h =
      row_at n j (drop w ws) d (le_of_suc-le-suc h) ∙ rw (drop-drop (j * w) w ws, suc-mul j w, add_comm (j * w) w)

  -- from row j on: that row, and the rows after it; past the last none
  pub rows_from : (n j : ℕ) (ws : List ℕ) → j < n → drop j (rows w read n ws) ≡ read (nth_run w j ws) ∷ drop (j + 1) (rows w read n ws)
  rows_from n j ws h =
      let d = read [] in
      let l : j < length (rows w read n ws) = rw (length_rows n ws) h in
      drop-cons (rows w read n ws) j d l ∙ rw (row_at n j ws d h, add-one j)

  pub rows_past : (n : ℕ) (ws : List ℕ) → drop n (rows w read n ws) ≡ []
  rows_past n ws = ap (λ (k : ℕ). drop k (rows w read n ws)) (sym (length_rows n ws)) ∙ drop-length (rows w read n ws)

-- ---- rows whose words are what was read: written one after the other they are the words
module _ {A : Type 0} (w : ℕ) (read : List ℕ → A) (write : A → List ℕ) (exact : (r : List ℕ) → length r ≡ w → write (read r) ≡ r) where
  pub enc_rows : (n : ℕ) (ws : List ℕ) → n * w ≤ length ws → enc_all write (rows w read n ws) ≡ take (n * w) ws
  unfolding rows enc_all
  enc_rows zero ws h = rw zero-mul
  enc_rows (suc n) ws h =
      let g : n * w + w ≤ length ws = rw suc-mul at h in
      rw (
        exact (take w ws) (length-take-le w ws (omega arith)),
        enc_rows n (drop w ws) (rw length-drop (omega arith)),
        suc-mul n w,
        add_comm (n * w) w,
        take-add w (n * w) ws,
      )

  pub sized_rows : (n : ℕ) (ws : List ℕ) → n * w ≤ length ws → Sized write w (rows w read n ws)
  unfolding rows
  sized_rows zero ws h = none
  sized_rows (suc n) ws h =
      let g : n * w + w ≤ length ws = rw suc-mul at h in
      let l : length (take w ws) ≡ w = length-take-le w ws (omega arith) in
      more {x = read (take w ws)} (rw (exact (take w ws) l) l) (sized_rows n (drop w ws) (rw length-drop (omega arith)))

  -- as lists of words
  pub rows_raw : (n : ℕ) (ws : List ℕ) → n * w ≤ length ws → map write (rows w read n ws) ≡ rows w row_words n ws
  unfolding rows
  rows_raw zero ws h = refl
  rows_raw (suc n) ws h =
      let g : n * w + w ≤ length ws = rw suc-mul at h in
      rw (exact (take w ws) (length-take-le w ws (omega arith)), rows_raw n (drop w ws) (rw length-drop (omega arith)))

-- ---- rows written and read back
pub rows_back : {A : Type 0} (w : ℕ) (read : List ℕ → A) (write : A → List ℕ) → ((a : A) → read (write a) ≡ a) → {l : List A} → Sized write w l
    → (ws : List ℕ) → rows w read (length l) (enc_all write l ++ ws) ≡ l
unfolding rows enc_all
rows_back w read write back none ws = refl
rows_back w read write back (more {x} {xs} e s) ws =
    rw (
      append_assoc,
      take_at (write x) (enc_all write xs ++ ws) w e,
      drop_at (write x) (enc_all write xs ++ ws) w e,
      back x,
      rows_back w read write back s ws,
    )

-- ---- a table
pub count_cons : (ws : List ℕ) → 0 < length ws → ws ≡ get_or ws 0 0 ∷ drop 1 ws
count_cons ws h = drop-cons ws 0 0 h

-- rows of any type, written as lists of words
pub enc_all_raw : {A : Type 0} (write : A → List ℕ) (l : List A) → enc_all row_words (map write l) ≡ enc_all write l
unfolding enc_all
enc_all_raw write [] = refl
enc_all_raw write (x ∷ l) = rw (enc_all_raw write l)

pub enc_raw : {A : Type 0} (w : ℕ) (write : A → List ℕ) (l : List A) (ws : List ℕ) → table_enc w row_words (map write l) ws ≡ table_enc w write l ws
unfolding table_enc
enc_raw w write l ws = rw (length-map, enc_all_raw write l)

module _ (w most : ℕ) (ws : List ℕ) (hl : length ws ≡ table_words w most) where
  pub tail_length : length (drop 1 ws) ≡ most * w
  tail_length = length-drop 1 ws ∙ omega arith

  pub in_rows : get_or ws 0 0 ≤ most → get_or ws 0 0 * w ≤ length (drop 1 ws)
  in_rows few = rw tail_length (mul-le-mul_right w few)

  module _ {A : Type 0} (read : List ℕ → A) (write : A → List ℕ) where
    -- the rows read, as lists of words
    pub dec_raw : ((r : List ℕ) → length r ≡ w → write (read r) ≡ r) → get_or ws 0 0 ≤ most → map write (table_dec w read ws) ≡ table_dec w row_words ws
    unfolding table_dec
    dec_raw exact few = rows_raw w read write exact (get_or ws 0 0) (drop 1 ws) (in_rows few)

    -- rows written are read back
    pub table_back : ((a : A) → read (write a) ≡ a) → {l : List A} → Sized write w l → table_dec w read (table_enc w write l ws) ≡ l
    unfolding table_enc table_dec
    table_back back {l} s = rows_back w read write back s (drop (length l * w) (drop 1 ws))

    -- over fewer rows
    pub table_over : {k : List A} → Sized write w k → (l : List A) → length k ≤ length l → table_enc w write l (table_enc w write k ws) ≡ table_enc w write l ws
    unfolding table_enc
    table_over {k} s l h =
        let m : length k * w ≤ length l * w = mul-le-mul_right w h in
        let e : length (enc_all write k) ≡ length k * w = length_enc_all write w s in
        let q : length l * w ≡ length (enc_all write k) + (length l * w - length k * w) = omega arith in
        let z : length k * w + (length l * w - length k * w) ≡ length l * w = omega arith in
        ap (λ (v : List ℕ). length l ∷ (enc_all write l ++ v))
        (ap (λ (i : ℕ). drop i (enc_all write k ++ drop (length k * w) (drop 1 ws))) q
        ∙ drop-append-add (enc_all write k) (drop (length k * w) (drop 1 ws)) (length l * w - length k * w)
        ∙ drop-drop (length l * w - length k * w) (length k * w) (drop 1 ws) ∙ ap (λ (i : ℕ). drop i (drop 1 ws)) z)
