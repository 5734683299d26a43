-- The turns of the passes over the positions and over the rows.
use mathlib.Core.Path.{◌≡◌, refl, sym, ap, ◌∙◌}
use mathlib.Core.Bool.{true, false}
use mathlib.Core.List.{List, [], ◌∷◌, ◌++◌}
use Prim.Native.Nat.{ℕ, zero, suc, ◌+◌, ◌*◌, ◌-◌, ◌/◌, ◌≤◌, ◌<◌}
use native.Mathlib.Nat.{le_refl, le_of_lt, mul-le-mul_right}
use native.Mathlib.Omega.{arith}
use lib.ListN.{length, take, drop, get_or, set, length-append, length-drop, length-set}
use Rattle.lists.specs.Runs.{enc_all, Sized}
use Rattle.lists.proofs.Tests.{by}
use Rattle.lists.proofs.Runs.{fits_in}
use Rattle.chunk_log.specs.Log.{Stored, row_of, cell_of, stored_at, key_at, saved_of, rows_in, positions_in, cells_in, lay, over, read_log}
use Rattle.chunk_log.specs.Log.{row_key, row_saved, position_at}
use Rattle.chunk_log.specs.Steps.{tag}
use Rattle.chunk_log.proofs.Regions.{length_over, over_at, over_two, over_set, drop_over, over_past, over_set_past, over_one, over_run, lay_row, lay_row_at}
use Rattle.chunk_log.proofs.Regions.{lay_position_at, lay_position, lay_rows, lay_positions, lay_past, lay_cells, lay_paste, length_rows, length_positions}
use Rattle.chunk_log.proofs.Regions.{length_cells, regions, row_word, position_word}
use Rattle.chunk_log.proofs.Chunks.{length_row_words, length_cells_in, enc_key, enc_saved}
use Rattle.chunk_log.proofs.Changes.{rows_more, cells_more, rows_put, tag_turn, tag_length}
use Rattle.sweep.specs.Sweep.{stays, plain, kept_first, plain_of, next_by, pick_first, put_positions, numbered, packing, moved, packed}
use Rattle.sweep.proofs.Tags.{tag_past}
use Rattle.sweep.proofs.Kept.{kept_first_yes, kept_first_no, kept_first_few, kept_first_sized}

-- ---- a turn of the pass over the positions

module _ (L : ℕ) (ws : List ℕ) (j : ℕ) where
  pub pick_first_yes : stays (row_saved ws (position_at L ws j)) ≡ true → pick_first L ws (suc j)
      ≡ pick_first L ws j ++ row_saved ws (position_at L ws j) / 4 ∷ []
  unfolding pick_first
  pick_first_yes e = rw e

  pub pick_first_no : stays (row_saved ws (position_at L ws j)) ≡ false → pick_first L ws (suc j) ≡ pick_first L ws j
  unfolding pick_first
  pick_first_no e = rw e

  pub pick_first_next : next_by (row_saved ws (position_at L ws j)) (length (pick_first L ws j)) ≡ length (pick_first L ws (suc j))
  pick_first_next =
      by (stays (row_saved ws (position_at L ws j))) (λ e. rw (e, pick_first_yes e, length-append)) (λ e. rw (e, pick_first_no e))

pub pick_first_few : (L : ℕ) (ws : List ℕ) (j : ℕ) → length (pick_first L ws j) ≤ j
unfolding pick_first
pick_first_few L ws zero = omega arith
pick_first_few L ws (suc j) =
    let h = pick_first_few L ws j in
    by (stays (row_saved ws (position_at L ws j))) (λ e. rw (e, length-append) (omega arith)) (λ e. rw e (omega arith))

module _ (L w : ℕ) (ws : List ℕ) (hl : length ws ≡ 1 + 3 * L + L * w) where
  pub over_position_length : (A : List ℕ) → length A ≤ L → length (over A (positions_in L ws)) ≡ L
  over_position_length A h = length_over A (positions_in L ws) (rw (length_positions L w ws hl) h) ∙ length_positions L w ws hl

  pub put_pos : (A : List ℕ) (j : ℕ) → length A ≤ j → j < L → position_at L (put_positions L A ws) j ≡ position_at L ws j
  unfolding put_positions
  put_pos A j h l =
      lay_position_at (get_or ws 0 0) (rows_in L ws) (over A (positions_in L ws)) (cells_in L ws) (1 + 2 * L + j) j (omega (arith, length_rows L w ws hl))
      (rw (over_position_length A (omega arith)) l)
      ∙ over_past A (positions_in L ws) j h ∙ position_word L w ws hl j l

  pub put_sav : (A : List ℕ) (q : ℕ) → q < L → row_saved (put_positions L A ws) q ≡ row_saved ws q
  unfolding put_positions
  put_sav A q l =
      let e : 1 + (2 * q + 1) ≡ 2 + 2 * q = omega arith in
      lay_row_at (get_or ws 0 0) (rows_in L ws) (over A (positions_in L ws)) (cells_in L ws) (2 + 2 * q) (2 * q + 1) (omega arith)
      (omega (arith, length_rows L w ws hl))
      ∙ row_word L w ws hl (2 * q + 1) (omega arith) ∙ ap (λ (k : ℕ). get_or ws k 0) e

  put_more : (A : List ℕ) (v q : ℕ) → length A < L → q ≡ 1 + 2 * L + length A → set (put_positions L A ws) q v ≡ put_positions L (A ++ v ∷ []) ws
  unfolding put_positions
  put_more A v q h e =
      lay_position (get_or ws 0 0) (rows_in L ws) (over A (positions_in L ws)) (cells_in L ws) q (length A) v (omega (arith, length_rows L w ws hl))
      (rw (over_position_length A (omega arith)) h)
      ∙ rw (over_one A (positions_in L ws) v (rw (length_positions L w ws hl) h))

  pub numbered_turn : (j : ℕ) → j < L → position_at L ws j < L
      → numbered L j (length (pick_first L ws j)) (put_positions L (pick_first L ws j) ws) ≡ put_positions L (pick_first L ws (suc j)) ws
  unfolding numbered
  numbered_turn j h hp =
      let few = pick_first_few L ws j in
      let ep = put_pos (pick_first L ws j) j few h in
      let es = put_sav (pick_first L ws j) (position_at L ws j) hp in
      rw (ep, es)
      (by (stays (row_saved ws (position_at L ws j)))
      (λ e. rw (e, pick_first_yes L ws j e) (put_more (pick_first L ws j) (row_saved ws (position_at L ws j) / 4) (1 + 2 * L + length (pick_first L ws j))
      (omega arith) refl))
      (λ e. rw (e, pick_first_no L ws j e)))

  pub put_none : ws ≡ put_positions L [] ws
  unfolding put_positions over
  put_none = regions L w ws hl

-- ---- a turn of the pass over the rows

module _ (L w : ℕ) (ws : List ℕ) (hl : length ws ≡ 1 + 3 * L + L * w) (cs : List Stored) (few : length cs ≤ L) (sz : Sized cell_of w cs)
    (cell : (i : ℕ) → i < length cs → (stored_at cs i).cell ≡ take w (drop (i * w) (cells_in L ws))) (i : ℕ) (h : i < length cs) where
  lengthA : length (enc_all row_of (kept_first cs i)) ≡ 2 * length (kept_first cs i)
  lengthA = length_row_words (kept_first cs i)

  few_kept : length (kept_first cs i) ≤ i
  few_kept = kept_first_few cs i

  length_under : (k : ℕ) → length (over (enc_all row_of (tag (plain_of cs) k cs)) (rows_in L ws)) ≡ 2 * L
  length_under k =
      length_over (enc_all row_of (tag (plain_of cs) k cs)) (rows_in L ws) (rw (length_row_words, tag_length, length_rows L w ws hl) (omega arith))
      ∙ length_rows L w ws hl

  length_both : (k : ℕ) → length (over (enc_all row_of (kept_first cs i)) (over (enc_all row_of (tag (plain_of cs) k cs)) (rows_in L ws))) ≡ 2 * L
  length_both k =
      length_over (enc_all row_of (kept_first cs i)) (over (enc_all row_of (tag (plain_of cs) k cs)) (rows_in L ws))
      (rw (lengthA, length_under k) (omega (arith, few_kept)))
      ∙ length_under k

  read : (q k : ℕ) → q ≡ suc k → 2 * i ≤ k → k < 2 * length cs → get_or (packing L cs i ws) q 0 ≡ get_or (enc_all row_of (tag (plain_of cs) i cs)) k 0
  unfolding packing
  read q k e lo hi =
      lay_row_at (get_or ws 0 0) (over (enc_all row_of (kept_first cs i)) (over (enc_all row_of (tag (plain_of cs) i cs)) (rows_in L ws))) (positions_in L ws)
      (over (enc_all cell_of (kept_first cs i)) (cells_in L ws)) q k e (rw (length_both i) (omega arith))
      ∙ over_past (enc_all row_of (kept_first cs i)) (over (enc_all row_of (tag (plain_of cs) i cs)) (rows_in L ws)) k (rw lengthA (omega (arith, few_kept)))
      ∙ over_at (enc_all row_of (tag (plain_of cs) i cs)) (rows_in L ws) k (rw (length_row_words, tag_length) hi)

  pub pack_saved : row_saved (packing L cs i ws) i ≡ saved_of cs i
  pack_saved =
      read (2 + 2 * i) (2 * i + 1) (omega arith) (omega arith) (omega arith)
      ∙ enc_saved (tag (plain_of cs) i cs) i (rw tag_length h) ∙ ap (λ (x : Stored). x.saved) (tag_past (plain_of cs) i cs i (le_refl i))

  pub pack_key : row_key (packing L cs i ws) i ≡ key_at cs i
  pack_key =
      read (1 + 2 * i) (2 * i) (omega arith) (omega arith) (omega arith)
      ∙ enc_key (tag (plain_of cs) i cs) i (rw tag_length h) ∙ ap (λ (x : Stored). x.key) (tag_past (plain_of cs) i cs i (le_refl i))

  -- the mark goes
  unmarked : set (packing L cs i ws) (2 + 2 * i) (plain_of cs i)
      ≡ lay (get_or ws 0 0) (over (enc_all row_of (kept_first cs i)) (over (enc_all row_of (tag (plain_of cs) (suc i) cs)) (rows_in L ws))) (positions_in L ws)
      (over (enc_all cell_of (kept_first cs i)) (cells_in L ws))
  unfolding packing
  unmarked =
      lay_row (get_or ws 0 0) (over (enc_all row_of (kept_first cs i)) (over (enc_all row_of (tag (plain_of cs) i cs)) (rows_in L ws))) (positions_in L ws)
      (over (enc_all cell_of (kept_first cs i)) (cells_in L ws)) (2 + 2 * i) (2 * i + 1) (plain_of cs i) (omega arith) (rw (length_both i) (omega arith))
      ∙ rw (
        over_set_past (enc_all row_of (kept_first cs i)) (over (enc_all row_of (tag (plain_of cs) i cs)) (rows_in L ws)) (2 * i + 1) (plain_of cs i)
            (rw lengthA (omega (arith, few_kept))),
        over_set (enc_all row_of (tag (plain_of cs) i cs)) (rows_in L ws) (2 * i + 1) (plain_of cs i) (rw (length_row_words, tag_length) (omega arith)),
        ← rows_put i (plain_of cs i) (tag (plain_of cs) i cs) (rw tag_length h),
        tag_turn (plain_of cs) i cs h,
      )

  -- the row and the cell go to their index
  carried : (n : ℕ) (T : List ℕ) → length T ≡ 2 * L
      → moved L w i (length (kept_first cs i)) (set (set (lay n (over (enc_all row_of (kept_first cs i)) T) (positions_in L ws)
      (over (enc_all cell_of (kept_first cs i)) (cells_in L ws)))
      (1 + 2 * length (kept_first cs i)) (key_at cs i)) (2 + 2 * length (kept_first cs i)) (plain_of cs i))
      ≡ lay n (over (enc_all row_of (kept_first cs i ++ plain (stored_at cs i) ∷ [])) T) (positions_in L ws)
      (over (enc_all cell_of (kept_first cs i ++ plain (stored_at cs i) ∷ [])) (cells_in L ws))
  unfolding moved
  carried n T lt =
      let o : ℕ = length (kept_first cs i) in
      let R : List ℕ = over (enc_all row_of (kept_first cs i)) T in
      let C : List ℕ = over (enc_all cell_of (kept_first cs i)) (cells_in L ws) in
      let I : List ℕ = positions_in L ws in
      let li : length (positions_in L ws) ≡ L = length_positions L w ws hl in
      let lr : length (over (enc_all row_of (kept_first cs i)) T)
      ≡ 2 * L = length_over (enc_all row_of (kept_first cs i)) T (rw (lengthA, lt) (omega (arith, few_kept))) ∙ lt in
      let two = over_two (enc_all row_of (kept_first cs i)) T (key_at cs i) (plain_of cs i) (2 * o) lengthA (rw lt (omega (arith, few_kept))) in
      let R2 : List ℕ = over (enc_all row_of (kept_first cs i ++ plain (stored_at cs i) ∷ [])) T in
      let lr2 : length (over (enc_all row_of (kept_first cs i ++ plain (stored_at cs i) ∷ [])) T) ≡ 2 * L =
      length_over (enc_all row_of (kept_first cs i ++ plain (stored_at cs i) ∷ [])) T (rw (length_row_words, length-append, lt) (omega (arith, few_kept)))
      ∙ lt in
      let lb : length (enc_all cell_of (kept_first cs i)) ≡ o * w = length_cells_in (kept_first_sized cs i (le_of_lt h) sz) in
      let ow : o * w ≤ i * w = mul-le-mul_right w few_kept in
      let rows : set (set (lay n R I C) (1 + 2 * o) (key_at cs i)) (2 + 2 * o) (plain_of cs i) ≡ lay n R2 I C =
      ap (λ (l : List ℕ). set l (2 + 2 * o) (plain_of cs i)) (lay_row n R I C (1 + 2 * o) (2 * o) (key_at cs i) (omega arith) (rw lr (omega (arith, few_kept))))
      ∙ lay_row n (set R (2 * o) (key_at cs i)) I C (2 + 2 * o) (2 * o + 1) (plain_of cs i) (omega arith) (rw (length-set, lr) (omega (arith, few_kept)))
      ∙ ap (λ (l : List ℕ). lay n l I C) (two ∙ ap (λ (l : List ℕ). over l T) (sym (rows_more (kept_first cs i) (plain (stored_at cs i))))) in
      let src : drop (1 + 3 * L + i * w) (lay n R2 I C) ≡ drop (i * w) (cells_in L ws) =
      lay_past n R2 I C (1 + 3 * L + i * w) (i * w) (omega arith) ∙ drop_over (enc_all cell_of (kept_first cs i)) (cells_in L ws) (i * w) (rw lb ow) in
      let wide : w ≤ length (drop (i * w) (cells_in L ws)) = rw (length-drop, length_cells L w ws hl) (room i L w (omega arith)) in
      rw (rows, src)
      (lay_paste n R2 I C (1 + 3 * L + o * w) (o * w) w (drop (i * w) (cells_in L ws)) (omega arith)
      ∙ ap (λ (l : List ℕ). lay n R2 I l) (over_run (enc_all cell_of (kept_first cs i)) (cells_in L ws) (drop (i * w) (cells_in L ws)) (o * w) w lb wide
      ∙ ap (λ (l : List ℕ). over l (cells_in L ws)) (ap (λ (l : List ℕ). enc_all cell_of (kept_first cs i) ++ l) (sym (cell i h))
      ∙ sym (cells_more (kept_first cs i) (plain (stored_at cs i))))))
    where
      room : (i L w : ℕ) → i < L → w ≤ L * w - i * w
      room i L w l = let z = fits_in w l in omega arith

  pub pack_next : next_by (saved_of cs i) (length (kept_first cs i)) ≡ length (kept_first cs (suc i))
  pack_next = by (stays (saved_of cs i)) (λ e. rw (e, kept_first_yes cs i e, length-append)) (λ e. rw (e, kept_first_no cs i e))

  end : (zs : List Stored) → kept_first cs (suc i) ≡ zs
      → lay (get_or ws 0 0) (over (enc_all row_of zs) (over (enc_all row_of (tag (plain_of cs) (suc i) cs)) (rows_in L ws))) (positions_in L ws)
      (over (enc_all cell_of zs) (cells_in L ws))
      ≡ packing L cs (suc i) ws
  unfolding packing
  end zs e = rw (← e)

  pub packed_turn : packed L w i (length (kept_first cs i)) (packing L cs i ws) ≡ packing L cs (suc i) ws
  unfolding packed
  packed_turn =
      rw (pack_saved, pack_key, unmarked)
      (by (stays (saved_of cs i)) (λ e. rw e (carried (get_or ws 0 0) (over (enc_all row_of (tag (plain_of cs) (suc i) cs)) (rows_in L ws))
      (length_under (suc i)) ∙ end (kept_first cs i ++ plain (stored_at cs i) ∷ []) (kept_first_yes cs i e)))
      (λ e. rw e (end (kept_first cs i) (kept_first_no cs i e))))

pub read_by : (L w : ℕ) (vs ws : List ℕ) → get_or vs 0 0 ≡ get_or ws 0 0 → rows_in L vs ≡ rows_in L ws → cells_in L vs ≡ cells_in L ws → read_log L w vs
    ≡ read_log L w ws
unfolding read_log
read_by L w vs ws a b c = rw (a, b, c)

module _ (L w : ℕ) (A ws : List ℕ) (hl : length ws ≡ 1 + 3 * L + L * w) (h : length A ≤ L) where
  put_count : get_or (put_positions L A ws) 0 0 ≡ get_or ws 0 0
  unfolding put_positions lay
  put_count = refl

  pub put_rows : rows_in L (put_positions L A ws) ≡ rows_in L ws
  unfolding put_positions
  put_rows = lay_rows (get_or ws 0 0) (rows_in L ws) (over A (positions_in L ws)) (cells_in L ws) (2 * L) (length_rows L w ws hl)

  pub put_in : positions_in L (put_positions L A ws) ≡ over A (positions_in L ws)
  unfolding put_positions
  put_in =
      lay_positions (get_or ws 0 0) (rows_in L ws) (over A (positions_in L ws)) (cells_in L ws) (1 + 2 * L) L (omega (arith, length_rows L w ws hl))
      (over_position_length L w ws hl A h)

  pub put_cells : cells_in L (put_positions L A ws) ≡ cells_in L ws
  unfolding put_positions
  put_cells =
      lay_cells (get_or ws 0 0) (rows_in L ws) (over A (positions_in L ws)) (cells_in L ws) (1 + 3 * L)
      (omega (arith, length_rows L w ws hl, over_position_length L w ws hl A h))

  pub read_put : read_log L w (put_positions L A ws) ≡ read_log L w ws
  read_put = read_by L w (put_positions L A ws) ws put_count put_rows put_cells
