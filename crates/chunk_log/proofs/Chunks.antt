-- Chunks read from a log's words and written over them.
use mathlib.Core.Path.{◌≡◌, refl, sym, ap, ◌∙◌}
use mathlib.Core.Logic.{◌≢◌}
use mathlib.Core.List.{List, [], ◌∷◌, ◌++◌, append_assoc}
use Prim.Native.Nat.{ℕ, zero, suc, ◌+◌, ◌*◌, ◌≤◌, ◌<◌}
use native.Mathlib.Nat.{lt_trans, not-suc-le-zero, le_of_suc-le-suc, zero-mul, suc-mul, mul_comm, mul-le-mul_right}
use native.Mathlib.Omega.{arith}
use lib.ListN.{length, take, drop, get_or, length-append, length-drop}
use lib.Seq.{get_or-take, get_or-drop, take_at, drop_at, drop-drop, length-take-le, take-add}
use Rattle.lists.specs.Runs.{enc_all, Sized, none, more}
use Rattle.lists.proofs.Runs.{length_enc_all}
use Rattle.chunk_log.specs.Positions.{positions}
use Rattle.chunk_log.specs.Log.{Stored, stored, row_of, cell_of, stored_at, key_at, positions_of, rows_in, positions_in, cells_in, lay, over, write_log}
use Rattle.chunk_log.specs.Log.{read_rows, read_log, row_key, row_saved, position_at, key_by, Ordered, LogWith, Fits}
use Rattle.chunk_log.proofs.Positions as order
use Rattle.chunk_log.proofs.Regions.{over_over, over_self, length_over, over_at, lay_rows, lay_positions, lay_cells, length_rows, length_positions}
use Rattle.chunk_log.proofs.Regions.{length_cells, regions, row_word, position_word}

-- ---- chunks read from rows and cells

pub length_read_rows : (w n : ℕ) (r c : List ℕ) → length (read_rows w n r c) ≡ n
unfolding read_rows
length_read_rows w zero r c = refl
length_read_rows w (suc n) r c = ap suc (length_read_rows w n (drop 2 r) (drop w c))

read_rows_at : (w n : ℕ) (r c : List ℕ) (j : ℕ) → j < n
    → stored_at (read_rows w n r c) j ≡ stored (get_or r (2 * j) 0) (get_or r (2 * j + 1) 0) (take w (drop (j * w) c))
unfolding read_rows
read_rows_at w zero r c j h = absurd (not-suc-le-zero h)
read_rows_at w (suc n) r c zero h = rw zero-mul
read_rows_at w (suc n) r c (suc j) h =
    let e : 2 * suc j ≡ 2 + 2 * j = omega arith in
    let e1 : 2 * suc j + 1 ≡ 2 + (2 * j + 1) = omega arith in
    let e2 : suc j * w ≡ w + j * w = rw suc-mul (omega arith) in
    read_rows_at w n (drop 2 r) (drop w c) j (le_of_suc-le-suc h)
    ∙ rw (get_or-drop 2 r (2 * j) 0, get_or-drop 2 r (2 * j + 1) 0, drop-drop (j * w) w c, e1, e, e2)

pub rows_read_rows : (w n : ℕ) (r c : List ℕ) → 2 * n ≤ length r → enc_all row_of (read_rows w n r c) ≡ take (2 * n) r
unfolding enc_all read_rows
rows_read_rows w zero r c h = refl
rows_read_rows w (suc n) r c h =
    let e : 2 * suc n ≡ 2 + 2 * n = omega arith in
    let hd : 2 * n ≤ length (drop 2 r) = rw length-drop (omega arith) in
    rw (rows_read_rows w n (drop 2 r) (drop w c) hd, e, take-add 2 (2 * n) r)
    (ap (λ (l : List ℕ). l ++ take (2 * n) (drop 2 r)) (two r (omega arith)))
  where
    two : (l : List ℕ) → 2 ≤ length l → get_or l 0 0 ∷ get_or l 1 0 ∷ [] ≡ take 2 l
    two [] g = absurd (omega arith)
    two (x ∷ []) g = absurd (omega arith)
    two (x ∷ y ∷ l) g = refl

pub cells_read_rows : (w n : ℕ) (r c : List ℕ) → enc_all cell_of (read_rows w n r c) ≡ take (n * w) c
unfolding enc_all read_rows
cells_read_rows w zero r c = rw zero-mul
cells_read_rows w (suc n) r c =
    let e : suc n * w ≡ w + n * w = rw suc-mul (omega arith) in
    rw (cells_read_rows w n (drop 2 r) (drop w c), e, take-add w (n * w) c)

pub sized_read_rows : (w n : ℕ) (r c : List ℕ) → n * w ≤ length c → Sized cell_of w (read_rows w n r c)
unfolding read_rows
sized_read_rows w zero r c h = none
sized_read_rows w (suc n) r c h =
    let g : n * w + w ≤ length c = rw suc-mul at h in
    let d : n * w ≤ length (drop w c) = rw length-drop (omega arith) in
    more (length-take-le w c (omega arith)) (sized_read_rows w n (drop 2 r) (drop w c) d)

read_rows_enc : (w : ℕ) {cs : List Stored} → Sized cell_of w cs → (r c : List ℕ)
    → read_rows w (length cs) (enc_all row_of cs ++ r) (enc_all cell_of cs ++ c) ≡ cs
unfolding read_rows enc_all
read_rows_enc w none r c = refl
read_rows_enc w (more {x} {xs} e s) r c =
    rw (append_assoc, take_at x.cell (enc_all cell_of xs ++ c) w e, drop_at x.cell (enc_all cell_of xs ++ c) w e)
    (ap (λ (l : List Stored). x ∷ l) (read_rows_enc w s r c))

pub length_row_words : (cs : List Stored) → length (enc_all row_of cs) ≡ 2 * length cs
length_row_words cs = length_enc_all row_of 2 (sized cs) ∙ mul_comm (length cs) 2
  where
    sized : (cs : List Stored) → Sized row_of 2 cs
    sized [] = none
    sized (e ∷ es) = more refl (sized es)

pub length_positions_of : (cs : List Stored) → length (positions_of cs) ≡ length cs
unfolding positions_of
length_positions_of cs = order.length_positions (key_at cs) (length cs)

pub length_cells_in : {w : ℕ} {cs : List Stored} → Sized cell_of w cs → length (enc_all cell_of cs) ≡ length cs * w
length_cells_in {w} s = length_enc_all cell_of w s

-- ---- the chunks of a log's words

module _ (L w : ℕ) (ws : List ℕ) (hl : length ws ≡ 1 + 3 * L + L * w) (few : get_or ws 0 0 ≤ L) where
  pub length_read : length (read_log L w ws) ≡ get_or ws 0 0
  unfolding read_log
  length_read = length_read_rows w (get_or ws 0 0) (rows_in L ws) (cells_in L ws)

  pub read_at : (j : ℕ) → j < get_or ws 0 0
      → stored_at (read_log L w ws) j ≡ stored (row_key ws j) (row_saved ws j) (take w (drop (j * w) (cells_in L ws)))
  unfolding read_log
  read_at j h =
      let e : 1 + (2 * j + 1) ≡ 2 + 2 * j = omega arith in
      read_rows_at w (get_or ws 0 0) (rows_in L ws) (cells_in L ws) j h
      ∙ rw (row_word L w ws hl (2 * j) (omega arith), row_word L w ws hl (2 * j + 1) (omega arith), e)

  pub read_key : (j : ℕ) → j < get_or ws 0 0 → key_at (read_log L w ws) j ≡ row_key ws j
  read_key j h = ap (λ (x : Stored). x.key) (read_at j h)

  pub read_saved : (j : ℕ) → j < get_or ws 0 0 → (stored_at (read_log L w ws) j).saved ≡ row_saved ws j
  read_saved j h = ap (λ (x : Stored). x.saved) (read_at j h)

  pub read_cell : (j : ℕ) → j < get_or ws 0 0 → (stored_at (read_log L w ws) j).cell ≡ take w (drop (j * w) (cells_in L ws))
  read_cell j h = ap (λ (x : Stored). x.cell) (read_at j h)

  pub sized_read : Sized cell_of w (read_log L w ws)
  unfolding read_log
  sized_read =
      sized_read_rows w (get_or ws 0 0) (rows_in L ws) (cells_in L ws) (rw (length_cells L w ws hl) (mul-le-mul_right w few))

  pub fits_read : Fits L w (read_log L w ws)
  fits_read = record { few = rw length_read few; sized = sized_read }

  rows_enc : enc_all row_of (read_log L w ws) ≡ take (2 * get_or ws 0 0) (rows_in L ws)
  unfolding read_log
  rows_enc = rows_read_rows w (get_or ws 0 0) (rows_in L ws) (cells_in L ws) (rw (length_rows L w ws hl) (omega arith))

  pub rows_over : over (enc_all row_of (read_log L w ws)) (rows_in L ws) ≡ rows_in L ws
  rows_over =
      over_self (enc_all row_of (read_log L w ws)) (rows_in L ws) (rw (length_row_words, length_read) rows_enc)

  cells_enc : enc_all cell_of (read_log L w ws) ≡ take (get_or ws 0 0 * w) (cells_in L ws)
  unfolding read_log
  cells_enc = cells_read_rows w (get_or ws 0 0) (rows_in L ws) (cells_in L ws)

  pub cells_over : over (enc_all cell_of (read_log L w ws)) (cells_in L ws) ≡ cells_in L ws
  cells_over =
      over_self (enc_all cell_of (read_log L w ws)) (cells_in L ws) (rw (length_cells_in sized_read, length_read) cells_enc)

  module _ (ix : Ordered L (get_or ws 0 0) ws) where
    xs_at : (i : ℕ) → i < get_or ws 0 0 → get_or (take (get_or ws 0 0) (positions_in L ws)) i 0 ≡ position_at L ws i
    xs_at i h = get_or-take (get_or ws 0 0) (positions_in L ws) i 0 h ∙ position_word L w ws hl i (omega arith)

    xs_key : (i : ℕ) → i < get_or ws 0 0 → key_at (read_log L w ws) (get_or (take (get_or ws 0 0) (positions_in L ws)) i 0) ≡ key_by L ws i
    xs_key i h = rw (xs_at i h) (read_key (position_at L ws i) (ix.below i h))

    xs_length : length (take (get_or ws 0 0) (positions_in L ws)) ≡ get_or ws 0 0
    xs_length = length-take-le (get_or ws 0 0) (positions_in L ws) (rw (length_positions L w ws hl) few)

    xs_all : order.All (λ q. q < get_or ws 0 0) (take (get_or ws 0 0) (positions_in L ws))
    xs_all =
        order.all_of (λ q. q < get_or ws 0 0) (take (get_or ws 0 0) (positions_in L ws))
        (λ i h. let q : i < get_or ws 0 0 = rw xs_length at h in rw (xs_at i q) (ix.below i q))

    xs_asc : order.Asc (key_at (read_log L w ws)) (take (get_or ws 0 0) (positions_in L ws))
    xs_asc =
        order.asc_of (key_at (read_log L w ws)) (take (get_or ws 0 0) (positions_in L ws))
        (λ i j h l. let q : j < get_or ws 0 0 = rw xs_length at l in
        rw (xs_key i (omega arith), xs_key j q) (ix.rising i j h q))

    -- the positions are determined by the keys
    position_words : take (get_or ws 0 0) (positions_in L ws) ≡ positions (key_at (read_log L w ws)) (get_or ws 0 0)
    position_words = order.unique (key_at (read_log L w ws)) (get_or ws 0 0) (take (get_or ws 0 0) (positions_in L ws)) xs_length xs_all xs_asc

    pub position_read : take (get_or ws 0 0) (positions_in L ws) ≡ positions_of (read_log L w ws)
    unfolding positions_of
    position_read = rw length_read position_words

    -- no key stands twice
    pub distinct_read : (i j : ℕ) → i < j → j < length (read_log L w ws) → key_at (read_log L w ws) i ≢ key_at (read_log L w ws) j
    distinct_read i j h l =
        order.distinct (key_at (read_log L w ws)) (get_or ws 0 0) (take (get_or ws 0 0) (positions_in L ws)) xs_length xs_all xs_asc i j h (rw length_read at l)

    -- each row is reached
    pub reach : (p : ℕ) → p < get_or ws 0 0 → (j : ℕ) × (j < get_or ws 0 0) × (position_at L ws j ≡ p)
    reach p h =
        let has : order.Has p (take (get_or ws 0 0) (positions_in L ws)) = rw position_words (order.positions_has (key_at (read_log L w ws)) (get_or ws 0 0) p h) in
        let r = order.has_at has in
        (r.0, rw xs_length at r.1, sym (xs_at r.0 (rw xs_length at r.1)) ∙ r.2)

    pub position_over : over (positions_of (read_log L w ws)) (positions_in L ws) ≡ positions_in L ws
    position_over = over_self (positions_of (read_log L w ws)) (positions_in L ws) (rw (length_positions_of, length_read) (sym position_read))

    -- the words of a log are its chunks written over them
    pub write_read : write_log L (read_log L w ws) ws ≡ ws
    unfolding write_log
    write_read = rw (length_read, rows_over, position_over, cells_over) (sym (regions L w ws hl))

-- ---- chunks written over words

pub enc_key : (ys : List Stored) (q : ℕ) → q < length ys → get_or (enc_all row_of ys) (2 * q) 0 ≡ key_at ys q
unfolding enc_all
enc_key [] q h = absurd (not-suc-le-zero h)
enc_key (x ∷ ys) zero h = refl
enc_key (x ∷ ys) (suc q) h = let e : 2 * suc q ≡ suc (suc (2 * q)) = omega arith in rw e (enc_key ys q (le_of_suc-le-suc h))

pub enc_saved : (ys : List Stored) (q : ℕ) → q < length ys → get_or (enc_all row_of ys) (2 * q + 1) 0 ≡ (stored_at ys q).saved
unfolding enc_all
enc_saved [] q h = absurd (not-suc-le-zero h)
enc_saved (x ∷ ys) zero h = refl
enc_saved (x ∷ ys) (suc q) h = let e : 2 * suc q + 1 ≡ suc (suc (2 * q + 1)) = omega arith in rw e (enc_saved ys q (le_of_suc-le-suc h))

module _ (L w : ℕ) (ys : List Stored) (ws : List ℕ) (hl : length ws ≡ 1 + 3 * L + L * w) (fit : Fits L w ys) where
  pub over_rows : length (over (enc_all row_of ys) (rows_in L ws)) ≡ 2 * L
  over_rows =
      length_over (enc_all row_of ys) (rows_in L ws) (rw (length_row_words, length_rows L w ws hl) (omega (arith, fit.few)))
      ∙ length_rows L w ws hl

  pub over_position : length (over (positions_of ys) (positions_in L ws)) ≡ L
  over_position =
      length_over (positions_of ys) (positions_in L ws) (rw (length_positions_of, length_positions L w ws hl) fit.few) ∙ length_positions L w ws hl

  pub over_cells : length (over (enc_all cell_of ys) (cells_in L ws)) ≡ L * w
  over_cells =
      length_over (enc_all cell_of ys) (cells_in L ws) (rw (length_cells_in fit.sized, length_cells L w ws hl) (mul-le-mul_right w fit.few))
      ∙ length_cells L w ws hl

  pub write_count : get_or (write_log L ys ws) 0 0 ≡ length ys
  unfolding write_log lay
  write_count = refl

  pub write_rows : rows_in L (write_log L ys ws) ≡ over (enc_all row_of ys) (rows_in L ws)
  unfolding write_log
  write_rows = lay_rows (length ys) (over (enc_all row_of ys) (rows_in L ws)) (over (positions_of ys) (positions_in L ws))
      (over (enc_all cell_of ys) (cells_in L ws)) (2 * L) over_rows

  pub write_position : positions_in L (write_log L ys ws) ≡ over (positions_of ys) (positions_in L ws)
  unfolding write_log
  write_position =
      lay_positions (length ys) (over (enc_all row_of ys) (rows_in L ws)) (over (positions_of ys) (positions_in L ws))
      (over (enc_all cell_of ys) (cells_in L ws))
      (1 + 2 * L) L (omega (arith, over_rows)) over_position

  pub write_cells : cells_in L (write_log L ys ws) ≡ over (enc_all cell_of ys) (cells_in L ws)
  unfolding write_log
  write_cells =
      lay_cells (length ys) (over (enc_all row_of ys) (rows_in L ws)) (over (positions_of ys) (positions_in L ws)) (over (enc_all cell_of ys) (cells_in L ws))
      (1 + 3 * L) (omega (arith, over_rows, over_position))

  pub length_write : length (write_log L ys ws) ≡ 1 + 3 * L + L * w
  unfolding write_log lay
  length_write = rw (length-append, length-append, over_rows, over_position, over_cells) (omega arith)

  -- what was written is read
  pub read_write : read_log L w (write_log L ys ws) ≡ ys
  unfolding read_log over
  read_write =
      rw (write_count, write_rows, write_cells)
      (read_rows_enc w fit.sized (drop (length (enc_all row_of ys)) (rows_in L ws)) (drop (length (enc_all cell_of ys)) (cells_in L ws)))

  pub write_key : (q : ℕ) → q < length ys → row_key (write_log L ys ws) q ≡ key_at ys q
  write_key q h =
      sym (row_word L w (write_log L ys ws) length_write (2 * q) (omega (arith, fit.few)))
      ∙ rw (write_rows, over_at (enc_all row_of ys) (rows_in L ws) (2 * q) (rw length_row_words (omega arith))) (enc_key ys q h)

  pub write_saved : (q : ℕ) → q < length ys → row_saved (write_log L ys ws) q ≡ (stored_at ys q).saved
  write_saved q h =
      let e : 1 + (2 * q + 1) ≡ 2 + 2 * q = omega arith in
      ap (λ (k : ℕ). get_or (write_log L ys ws) k 0) (sym e)
      ∙ sym (row_word L w (write_log L ys ws) length_write (2 * q + 1) (omega (arith, fit.few)))
      ∙ rw (write_rows, over_at (enc_all row_of ys) (rows_in L ws) (2 * q + 1) (rw length_row_words (omega arith))) (enc_saved ys q h)

  pub write_pos : (j : ℕ) → j < length ys → position_at L (write_log L ys ws) j ≡ get_or (positions_of ys) j 0
  write_pos j h =
      sym (position_word L w (write_log L ys ws) length_write j (omega (arith, fit.few)))
      ∙ rw write_position (over_at (positions_of ys) (positions_in L ws) j (rw length_positions_of h))

  pub positions_of_below : (j : ℕ) → j < length ys → get_or (positions_of ys) j 0 < length ys
  unfolding positions_of
  positions_of_below j h = order.all_elem (order.positions_below (key_at ys) (length ys)) j (rw order.length_positions h)

  pub write_by : (j : ℕ) → j < length ys → key_by L (write_log L ys ws) j ≡ key_at ys (get_or (positions_of ys) j 0)
  write_by j h = rw (write_pos j h) (write_key (get_or (positions_of ys) j 0) (positions_of_below j h))

  positions_of_asc : ((i j : ℕ) → i < j → j < length ys → key_at ys i ≢ key_at ys j)
      → (i j : ℕ) → i < j → j < length ys → key_at ys (get_or (positions_of ys) i 0) < key_at ys (get_or (positions_of ys) j 0)
  unfolding positions_of
  positions_of_asc d i j h l = order.asc_at (key_at ys) (order.positions_asc (key_at ys) (length ys) d) i j h (rw order.length_positions l)

  pub position_write : ((i j : ℕ) → i < j → j < length ys → key_at ys i ≢ key_at ys j) → Ordered L (length ys) (write_log L ys ws)
  position_write d =
      record {
        below = λ j h. rw (write_pos j h) (positions_of_below j h);
        rising = λ i j h l. rw (write_by i (lt_trans h l), write_by j l) (positions_of_asc d i j h l);
      }

  -- chunks with distinct keys make a log
  pub log_write : {top : ℕ} → ((i : ℕ) → i < length ys → (stored_at ys i).saved ≤ top)
      → ((i j : ℕ) → i < j → j < length ys → key_at ys i ≢ key_at ys j) → (len : ℕ) → len ≡ 8 * (1 + 3 * L + L * w)
      → LogWith top L w (write_log L ys ws) len
  log_write flags apart len e =
      record {
        few = rw write_count fit.few;
        size = e;
        flags = λ i h. let q : i < length ys = rw write_count at h in rw (write_saved i q) (flags i q);
        order = rw write_count (position_write apart);
      }

-- ---- one log written over another

pub write_as : (L : ℕ) (ys : List Stored) (ws : List ℕ)
    → write_log L ys ws ≡ lay (length ys) (over (enc_all row_of ys) (rows_in L ws)) (over (positions_of ys) (positions_in L ws))
    (over (enc_all cell_of ys) (cells_in L ws))
unfolding write_log
write_as L ys ws = refl

pub write_write : (L w : ℕ) (ys zs : List Stored) (ws : List ℕ) → length ws ≡ 1 + 3 * L + L * w → Fits L w ys → Fits L w zs → length zs ≤ length ys
    → write_log L ys (write_log L zs ws) ≡ write_log L ys ws
write_write L w ys zs ws hl fy fz h =
    write_as L ys (write_log L zs ws)
    ∙ join (rows_in L (write_log L zs ws)) (positions_in L (write_log L zs ws)) (cells_in L (write_log L zs ws))
    (ap (over (enc_all row_of ys)) (write_rows L w zs ws hl fz)
    ∙ over_over (enc_all row_of ys) (enc_all row_of zs) (rows_in L ws) (rw (length_row_words, length_row_words) (omega arith)))
    (ap (over (positions_of ys)) (write_position L w zs ws hl fz)
    ∙ over_over (positions_of ys) (positions_of zs) (positions_in L ws) (rw (length_positions_of, length_positions_of) h))
    (ap (over (enc_all cell_of ys)) (write_cells L w zs ws hl fz)
    ∙ over_over (enc_all cell_of ys) (enc_all cell_of zs) (cells_in L ws)
    (rw (length_cells_in fy.sized, length_cells_in fz.sized) (mul-le-mul_right w h)))
    ∙ sym (write_as L ys ws)
  where
    join : (R I C : List ℕ) → over (enc_all row_of ys) R ≡ over (enc_all row_of ys) (rows_in L ws) → over (positions_of ys) I
        ≡ over (positions_of ys) (positions_in L ws)
        → over (enc_all cell_of ys) C ≡ over (enc_all cell_of ys) (cells_in L ws)
        → lay (length ys) (over (enc_all row_of ys) R) (over (positions_of ys) I) (over (enc_all cell_of ys) C)
        ≡ lay (length ys) (over (enc_all row_of ys) (rows_in L ws)) (over (positions_of ys) (positions_in L ws)) (over (enc_all cell_of ys) (cells_in L ws))
    join R I C a b c = rw (a, b, c)
