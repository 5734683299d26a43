-- What stores leave of a log's words: a chunk more, another saved word.
use mathlib.Core.Path.{◌≡◌, refl, sym, ap, ◌∙◌}
use mathlib.Core.List.{List, [], ◌∷◌, ◌++◌, append-nil, map}
use Prim.Native.Nat.{ℕ, zero, suc, ◌+◌, ◌*◌, ◌-◌, ◌≤◌, ◌<◌}
use native.Mathlib.Nat.{le_refl, not-suc-le-zero, le_of_suc-le-suc}
use native.Mathlib.Omega.{arith}
use lib.ListN.{length, take, drop, get_or, set, length-append, length-drop, length-set, get_or-append}
use lib.Seq.{paste, length-paste, get_or-append_seam}
use Rattle.lists.specs.Runs.{enc_all, Sized, none, more}
use Rattle.lists.proofs.Runs.{fits_in, enc_all_append}
use Rattle.chunk_log.specs.Positions.{positions}
use Rattle.chunk_log.specs.Log.{Stored, stored, row_of, cell_of, stored_at, key_at, positions_of, rows_in, positions_in, cells_in, lay, over, write_log}
use Rattle.chunk_log.specs.Log.{KeyBound, Fits}
use Rattle.chunk_log.specs.Steps.{with_saved, put_saved, tag, entered}
use Rattle.chunk_log.proofs.Positions as order
use Rattle.chunk_log.proofs.Regions.{over_two, over_next, over_paste, over_hides, over_insert, over_set, lay_row, lay_rows, lay_position, lay_positions}
use Rattle.chunk_log.proofs.Regions.{lay_cells, lay_paste, lay_shift, length_rows, length_positions, length_cells, regions}
use Rattle.chunk_log.proofs.Chunks.{length_row_words, length_positions_of, length_cells_in, over_rows, over_position, write_as, write_by}

-- ---- a chunk more

pub rows_more : (ys : List Stored) (x : Stored) → enc_all row_of (ys ++ x ∷ []) ≡ enc_all row_of ys ++ x.key ∷ x.saved ∷ []
unfolding enc_all
rows_more ys x = enc_all_append row_of ys (x ∷ [])

pub cells_more : (ys : List Stored) (x : Stored) → enc_all cell_of (ys ++ x ∷ []) ≡ enc_all cell_of ys ++ x.cell
unfolding enc_all
cells_more ys x = enc_all_append cell_of ys (x ∷ []) ∙ rw append-nil

pub sized_more : {w : ℕ} {ys : List Stored} (x : Stored) → Sized cell_of w ys → length x.cell ≡ w → Sized cell_of w (ys ++ x ∷ [])
sized_more x none e = more e none
sized_more x (more g s) e = more g (sized_more x s e)

position_more : (ys : List Stored) (x : Stored) (p : ℕ) → p ≤ length ys
    → ((j : ℕ) → j < p → key_at ys (get_or (positions_of ys) j 0) < x.key)
    → (p < length ys → x.key ≤ key_at ys (get_or (positions_of ys) p 0))
    → positions_of (ys ++ x ∷ []) ≡ take p (positions_of ys) ++ length ys ∷ drop p (positions_of ys)
unfolding positions_of
position_more ys x p hp before after =
    let len : length (ys ++ x ∷ []) ≡ suc (length ys) = rw length-append (omega arith) in
    rw len
    (order.grow (key_at ys) (key_at (ys ++ x ∷ [])) (length ys) x.key p
    (λ i h. ap (λ (c : Stored). c.key) (get_or-append ys (x ∷ []) (stored 0 0 []) i h))
    (ap (λ (c : Stored). c.key) (get_or-append_seam ys x [] (stored 0 0 []))) hp before after)

lay_count : (n v : ℕ) (R I C : List ℕ) → set (lay n R I C) 0 v ≡ lay v R I C
unfolding lay
lay_count n v R I C = refl

entered_lay : (L m p k s n : ℕ) (R I C : List ℕ) → length R ≡ 2 * L → length I ≡ L → p ≤ m → m < L
    → entered L m p k s (lay n R I C)
    ≡ lay (m + 1) (set (set R (2 * m) k) (2 * m + 1) s) (set (paste I (p + 1) (drop p I) (m - p)) p m) C
unfolding entered
entered_lay L m p k s n R I C hr hi hp hm =
    let I1 : List ℕ = paste I (p + 1) (drop p I) (m - p) in
    let l1 : length (paste I (p + 1) (drop p I) (m - p)) ≡ L =
    length-paste I (p + 1) (drop p I) (m - p) (omega arith) (rw length-drop (omega arith)) ∙ hi in
    let l2 : length (set R (2 * m) k) ≡ 2 * L = length-set R (2 * m) k ∙ hr in
    rw (
      lay_shift n R I C (1 + 2 * L + p) (1 + 2 * L + (p + 1)) p (m - p) (omega arith) (omega arith) (omega arith),
      lay_position n R I1 C (1 + 2 * L + p) p m (omega arith) (omega arith),
      lay_row n R (set I1 p m) C (1 + 2 * m) (2 * m) k (omega arith) (omega arith),
      lay_row n (set R (2 * m) k) (set I1 p m) C (2 + 2 * m) (2 * m + 1) s (omega arith) (omega arith),
    )
    (lay_count n (m + 1) (set (set R (2 * m) k) (2 * m + 1) s) (set I1 p m) C)

module _ (L w : ℕ) (ys : List Stored) (ws : List ℕ) (hl : length ws ≡ 1 + 3 * L + L * w) (fit : Fits L w ys) (room : length ys < L)
    (x : Stored) (hx : length x.cell ≡ w) where
  module _ (p : ℕ) (pl : KeyBound L (length ys) (write_log L ys ws) x.key p) where
    position_in : positions_of (ys ++ x ∷ []) ≡ take p (positions_of ys) ++ length ys ∷ drop p (positions_of ys)
    position_in =
        position_more ys x p pl.within
        (λ j h. rw (write_by L w ys ws hl fit j (omega (arith, pl.within))) at (pl.before j h))
        (λ h. rw (write_by L w ys ws hl fit p h) at (pl.after p (le_refl p) h))

    entered_regions : entered L (length ys) p x.key x.saved (write_log L ys ws)
        ≡ lay (length ys + 1) (over (enc_all row_of (ys ++ x ∷ [])) (rows_in L ws)) (over (positions_of (ys ++ x ∷ [])) (positions_in L ws))
        (over (enc_all cell_of ys) (cells_in L ws))
    unfolding write_log
    entered_regions =
        let r = over_two (enc_all row_of ys) (rows_in L ws) x.key x.saved (2 * length ys) (length_row_words ys)
        (rw (length_rows L w ws hl) (omega arith)) in
        let i = over_insert (positions_of ys) (positions_in L ws) p (length ys) (length ys) (length_positions_of ys) (rw (length_positions L w ws hl) room)
        pl.within in
        entered_lay L (length ys) p x.key x.saved (length ys) (over (enc_all row_of ys) (rows_in L ws)) (over (positions_of ys) (positions_in L ws))
        (over (enc_all cell_of ys) (cells_in L ws))
        (over_rows L w ys ws hl fit) (over_position L w ys ws hl fit) pl.within room
        ∙ rw (r, i, rows_more ys x, position_in)

    -- the chunk x after the chunks ys, whose cell stands there
    pub pushed : x.cell ≡ take w (drop (length ys * w) (cells_in L ws))
        → entered L (length ys) p x.key x.saved (write_log L ys ws) ≡ write_log L (ys ++ x ∷ []) ws
    unfolding write_log
    pushed e =
        let len : length (ys ++ x ∷ []) ≡ length ys + 1 = rw length-append (omega arith) in
        let inside = fits_in w room in
        let o = over_next (enc_all cell_of ys) (cells_in L ws) (length ys * w) w (length_cells_in fit.sized) (rw (length_cells L w ws hl) (omega arith)) in
        entered_regions ∙ rw (o, ← e, cells_more ys x, len)

-- ---- words among the cells

module _ (L w : ℕ) (ws : List ℕ) (hl : length ws ≡ 1 + 3 * L + L * w) (b k q : ℕ) (s : List ℕ) (eq : q ≡ 1 + 3 * L + b) (hb : b ≤ L * w) where
  pasted : paste ws q s k ≡ lay (get_or ws 0 0) (rows_in L ws) (positions_in L ws) (paste (cells_in L ws) b s k)
  pasted =
      ap (λ (l : List ℕ). paste l q s k) (regions L w ws hl)
      ∙ lay_paste (get_or ws 0 0) (rows_in L ws) (positions_in L ws) (cells_in L ws) q b k s
      (omega (arith, length_rows L w ws hl, length_positions L w ws hl))

  rows_left : rows_in L (paste ws q s k) ≡ rows_in L ws
  rows_left =
      ap (rows_in L) pasted ∙ lay_rows (get_or ws 0 0) (rows_in L ws) (positions_in L ws) (paste (cells_in L ws) b s k) (2 * L) (length_rows L w ws hl)

  positions_left : positions_in L (paste ws q s k) ≡ positions_in L ws
  positions_left =
      ap (positions_in L) pasted
      ∙ lay_positions (get_or ws 0 0) (rows_in L ws) (positions_in L ws) (paste (cells_in L ws) b s k) (1 + 2 * L) L
      (omega (arith, length_rows L w ws hl)) (length_positions L w ws hl)

  cells_pasted : cells_in L (paste ws q s k) ≡ paste (cells_in L ws) b s k
  cells_pasted =
      ap (cells_in L) pasted
      ∙ lay_cells (get_or ws 0 0) (rows_in L ws) (positions_in L ws) (paste (cells_in L ws) b s k) (1 + 3 * L)
      (omega (arith, length_rows L w ws hl, length_positions L w ws hl))

  same_regions : (ys : List Stored) (C : List ℕ) → over (enc_all cell_of ys) (paste (cells_in L ws) b s k) ≡ C
      → write_log L ys (paste ws q s k) ≡ lay (length ys) (over (enc_all row_of ys) (rows_in L ws)) (over (positions_of ys) (positions_in L ws)) C
  same_regions ys C e =
      write_as L ys (paste ws q s k)
      ∙ join (rows_in L (paste ws q s k)) (positions_in L (paste ws q s k)) (cells_in L (paste ws q s k)) rows_left positions_left cells_pasted
    where
      join : (R I X : List ℕ) → R ≡ rows_in L ws → I ≡ positions_in L ws → X ≡ paste (cells_in L ws) b s k
          → lay (length ys) (over (enc_all row_of ys) R) (over (positions_of ys) I) (over (enc_all cell_of ys) X)
          ≡ lay (length ys) (over (enc_all row_of ys) (rows_in L ws)) (over (positions_of ys) (positions_in L ws)) C
      join R I X r i x = rw (r, i, x, e)

  -- chunks written over them hide them
  pub write_hides : (ys : List Stored) → Sized cell_of w ys → b + k ≤ length ys * w → k ≤ length s → write_log L ys (paste ws q s k) ≡ write_log L ys ws
  write_hides ys z h hs =
      same_regions ys (over (enc_all cell_of ys) (cells_in L ws))
      (over_hides (enc_all cell_of ys) (cells_in L ws) s b k (rw (length_cells_in z) h) (rw (length_cells L w ws hl) hb) hs)
      ∙ sym (write_as L ys ws)

  -- chunks before them leave them
  pub write_leaves : (ys : List Stored) → Fits L w ys → length ys * w ≡ b → paste (write_log L ys ws) q s k ≡ write_log L ys (paste ws q s k)
  write_leaves ys fit e =
      let R : List ℕ = over (enc_all row_of ys) (rows_in L ws) in
      let I : List ℕ = over (positions_of ys) (positions_in L ws) in
      let C : List ℕ = over (enc_all cell_of ys) (cells_in L ws) in
      ap (λ (l : List ℕ). paste l q s k) (write_as L ys ws)
      ∙ lay_paste (length ys) R I C q b k s (omega (arith, over_rows L w ys ws hl fit, over_position L w ys ws hl fit))
      ∙ sym (same_regions ys (paste C b s k)
      (sym (over_paste (enc_all cell_of ys) (cells_in L ws) s b k (length_cells_in fit.sized ∙ e) (rw (length_cells L w ws hl) hb))))

-- ---- another saved word

pub rows_put : (i v : ℕ) (ys : List Stored) → i < length ys → enc_all row_of (put_saved i v ys) ≡ set (enc_all row_of ys) (2 * i + 1) v
unfolding enc_all put_saved
rows_put i v [] h = absurd (not-suc-le-zero h)
rows_put zero v (x ∷ ys) h = refl
rows_put (suc i) v (x ∷ ys) h =
    let e : 2 * suc i + 1 ≡ suc (suc (2 * i + 1)) = omega arith in
    rw e (ap (λ (l : List ℕ). x.key ∷ x.saved ∷ l) (rows_put i v ys (le_of_suc-le-suc h)))

cells_put : (i v : ℕ) (ys : List Stored) → enc_all cell_of (put_saved i v ys) ≡ enc_all cell_of ys
unfolding enc_all put_saved
cells_put i v [] = refl
cells_put zero v (x ∷ ys) = refl
cells_put (suc i) v (x ∷ ys) = ap (λ (l : List ℕ). x.cell ++ l) (cells_put i v ys)

key_put : (i v : ℕ) (ys : List Stored) (j : ℕ) → key_at (put_saved i v ys) j ≡ key_at ys j
unfolding put_saved
key_put i v [] j = refl
key_put zero v (x ∷ ys) zero = refl
key_put zero v (x ∷ ys) (suc j) = refl
key_put (suc i) v (x ∷ ys) zero = refl
key_put (suc i) v (x ∷ ys) (suc j) = key_put i v ys j

pub length_put : (i v : ℕ) (ys : List Stored) → length (put_saved i v ys) ≡ length ys
unfolding put_saved
length_put i v ys = length-set ys i (with_saved v (stored_at ys i))

position_put : (i v : ℕ) (ys : List Stored) → positions_of (put_saved i v ys) ≡ positions_of ys
unfolding positions_of
position_put i v ys = rw length_put (order.positions_same (key_at (put_saved i v ys)) (key_at ys) (length ys) (λ j _. key_put i v ys j))

pub set_saved : (L w : ℕ) (ys : List Stored) (ws : List ℕ) → length ws ≡ 1 + 3 * L + L * w → Fits L w ys → (i v q : ℕ) → i < length ys → q ≡ 2 + 2 * i
    → set (write_log L ys ws) q v ≡ write_log L (put_saved i v ys) ws
unfolding write_log
set_saved L w ys ws hl fit i v q h e =
    let lr = over_rows L w ys ws hl fit in
    let la : length (enc_all row_of ys) ≡ 2 * length ys = length_row_words ys in
    lay_row (length ys) (over (enc_all row_of ys) (rows_in L ws)) (over (positions_of ys) (positions_in L ws)) (over (enc_all cell_of ys) (cells_in L ws)) q
    (2 * i + 1) v (omega arith) (omega (arith, fit.few))
    ∙ rw (over_set (enc_all row_of ys) (rows_in L ws) (2 * i + 1) v (omega arith), length_put i v ys, rows_put i v ys h, position_put i v ys, cells_put i v ys)

pub tag_turn : (g : ℕ → ℕ) (i : ℕ) (cs : List Stored) → i < length cs → put_saved i (g i) (tag g i cs) ≡ tag g (suc i) cs
unfolding tag put_saved
tag_turn g i [] h = absurd (not-suc-le-zero h)
tag_turn g zero (x ∷ cs) h = refl
tag_turn g (suc i) (x ∷ cs) h = ap (λ (l : List Stored). with_saved (g 0) x ∷ l) (tag_turn (λ j. g (suc j)) i cs (le_of_suc-le-suc h))

pub tag_length : (g : ℕ → ℕ) (i : ℕ) (cs : List Stored) → length (tag g i cs) ≡ length cs
unfolding tag
tag_length g zero cs = refl
tag_length g (suc i) [] = refl
tag_length g (suc i) (x ∷ cs) = ap suc (tag_length (λ j. g (suc j)) i cs)

pub tag_sized : {w : ℕ} (g : ℕ → ℕ) (i : ℕ) {cs : List Stored} → Sized cell_of w cs → Sized cell_of w (tag g i cs)
unfolding tag
tag_sized g zero s = s
tag_sized g (suc i) none = none
tag_sized g (suc i) (more e s) = more e (tag_sized (λ j. g (suc j)) i s)

pub tag_fits : {L w : ℕ} (g : ℕ → ℕ) (i : ℕ) {cs : List Stored} → Fits L w cs → Fits L w (tag g i cs)
tag_fits g i {cs} f = record { few = rw tag_length f.few; sized = tag_sized g i f.sized }

pub tag_all : (v : ℕ) (cs : List Stored) → tag (λ _. v) (length cs) cs ≡ map (with_saved v) cs
unfolding tag
tag_all v [] = refl
tag_all v (x ∷ cs) = ap (λ (l : List Stored). with_saved v x ∷ l) (tag_all v cs)

-- no chunks
pub cleared : (L w : ℕ) (ws : List ℕ) → length ws ≡ 1 + 3 * L + L * w → set ws 0 0 ≡ write_log L [] ws
unfolding write_log over enc_all positions_of positions
cleared L w ws hl =
    ap (λ (l : List ℕ). set l 0 0) (regions L w ws hl) ∙ lay_count (get_or ws 0 0) 0 (rows_in L ws) (positions_in L ws) (cells_in L ws)
