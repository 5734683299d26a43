-- What the passes leave together.
use mathlib.Core.Path.{◌≡◌, refl, sym, ap, ◌∙◌}
use mathlib.Core.Logic.{◌≢◌}
use mathlib.Core.Bool.{Bool}
use mathlib.Core.List.{List, [], map}
use Prim.Native.Nat.{ℕ, zero, suc, ◌+◌, ◌*◌, ◌/◌, ◌%◌, ◌≤◌, ◌<◌}
use native.Mathlib.Nat.{le_refl, le_of_lt}
use native.Mathlib.Omega.{arith}
use lib.Dec.{eqb}
use lib.ListN.{length, take, get_or, set}
use lib.Seq.{take_all, take-suc}
use Rattle.lists.specs.Runs.{enc_all}
use Rattle.lists.proofs.Tests.{by}
use Rattle.chunk_log.specs.Log.{Stored, row_of, cell_of, stored_at, key_at, saved_of, positions_of, rows_in, positions_in, cells_in, lay, over, write_log, read_log}
use Rattle.chunk_log.specs.Log.{row_saved, position_at, Ordered, Fits}
use Rattle.chunk_log.specs.Steps.{with_saved, tag}
use Rattle.chunk_log.proofs.Positions as order
use Rattle.chunk_log.proofs.Positions.{pick}
use Rattle.chunk_log.proofs.Regions.{over_over, regions}
use Rattle.chunk_log.proofs.Chunks.{length_row_words, length_positions_of, fits_read, rows_over, cells_over, distinct_read, position_over, write_count}
use Rattle.chunk_log.proofs.Chunks.{write_rows, write_position, write_cells, length_write, read_write, write_saved, write_pos, positions_of_below, write_as}
use Rattle.chunk_log.proofs.Changes.{tag_length, tag_fits}
use Rattle.sweep.specs.Sweep.{stays, plain, kept_chunks, kept_first, rank, tag_of, plain_of, pick_first, put_positions, packing}
use Rattle.sweep.proofs.Tags.{tag_at, tag_cells, tag_position, tag_same, tag_map, tag_tag}
use Rattle.sweep.proofs.Kept.{kept_first_kept, kept_first_yes, kept_first_no, kept_first_none, position_kept}
use Rattle.sweep.proofs.Passes.{pick_first_yes, pick_first_no, pick_first_few, put_rows, put_in, put_cells, read_put}

-- ---- ranks in the saved words

pick_first_none : (L : ℕ) (ws : List ℕ) → pick_first L ws 0 ≡ []
unfolding pick_first
pick_first_none L ws = refl

set_packing : (L : ℕ) (cs : List Stored) (i : ℕ) (ws : List ℕ) (v : ℕ)
    → set (packing L cs i ws) 0 v
    ≡ lay v (over (enc_all row_of (kept_first cs i)) (over (enc_all row_of (tag (plain_of cs) i cs)) (rows_in L ws))) (positions_in L ws)
    (over (enc_all cell_of (kept_first cs i)) (cells_in L ws))
unfolding packing lay
set_packing L cs i ws v = refl

module _ (cs : List Stored) (low : (i : ℕ) → i < length cs → saved_of cs i ≤ 3) where
  abbrev tags : List Stored
  tags = tag (tag_of cs) (length cs) cs

  tags_at : (i : ℕ) → i < length cs → stored_at tags i ≡ with_saved (tag_of cs i) (stored_at cs i)
  tags_at i h = tag_at (tag_of cs) (length cs) cs i h h

  stays_tag : (i : ℕ) → stays (tag_of cs i) ≡ stays (saved_of cs i)
  stays_tag i = ap (λ (x : ℕ). eqb x 1) (bits (saved_of cs i) (rank (saved_of cs) i))
    where
      bits : (s r : ℕ) → (s + 4 * r) % 4 / 2 ≡ s % 4 / 2
      bits s r = omega arith

  plain_tag : (i : ℕ) → tag_of cs i % 2 ≡ saved_of cs i % 2
  plain_tag i = bit (saved_of cs i) (rank (saved_of cs) i)
    where
      bit : (s r : ℕ) → (s + 4 * r) % 2 ≡ s % 2
      bit s r = omega arith

  kept_first_tags : (i : ℕ) → i ≤ length cs → kept_first tags i ≡ kept_first cs i
  kept_first_tags zero h = kept_first_none tags ∙ sym (kept_first_none cs)
  kept_first_tags (suc i) h =
      let es : stays (saved_of tags i) ≡ stays (saved_of cs i) = ap (λ (x : Stored). stays x.saved) (tags_at i h) ∙ stays_tag i in
      let ep : plain (stored_at tags i) ≡ plain (stored_at cs i) = ap plain (tags_at i h) ∙ ap (λ (s : ℕ). with_saved s (stored_at cs i)) (plain_tag i) in
      by (stays (saved_of cs i))
      (λ e. kept_first_yes tags i (es ∙ e) ∙ rw (ep, kept_first_tags i (le_of_lt h)) (sym (kept_first_yes cs i e)))
      (λ e. kept_first_no tags i (es ∙ e) ∙ kept_first_tags i (le_of_lt h) ∙ sym (kept_first_no cs i e))

  pub kept_tags : kept_first tags (length cs) ≡ kept_chunks cs
  kept_tags = kept_first_tags (length cs) (le_refl (length cs)) ∙ kept_first_kept cs

  pub plain_tags : tag (plain_of tags) (length cs) tags ≡ map plain cs
  plain_tags =
      tag_tag (plain_of tags) (tag_of cs) (length cs) cs
      ∙ tag_same (plain_of tags) (plain_of cs) (length cs) cs (λ j h. ap (λ (x : Stored). x.saved % 2) (tags_at j h) ∙ plain_tag j)
      ∙ tag_map (λ x. x.saved % 2) cs

module _ (L w : ℕ) (ws : List ℕ) (hl : length ws ≡ 1 + 3 * L + L * w) (few : get_or ws 0 0 ≤ L) (ix : Ordered L (get_or ws 0 0) ws)
    (cs : List Stored) (ecs : cs ≡ read_log L w ws) (low : (i : ℕ) → i < length cs → saved_of cs i ≤ 3) where
  fit : Fits L w cs
  fit = rw ecs (fits_read L w ws hl few)

  fits_tags : Fits L w (tag (tag_of cs) (length cs) cs)
  fits_tags = tag_fits (tag_of cs) (length cs) fit

  n_tags : length (tag (tag_of cs) (length cs) cs) ≡ length cs
  n_tags = tag_length (tag_of cs) (length cs) cs

  apart : (i j : ℕ) → i < j → j < length cs → key_at cs i ≢ key_at cs j
  apart = rw ecs (distinct_read L w ws hl few ix)

  -- the words with ranks
  abbrev ranked : List ℕ
  ranked = write_log L (tag (tag_of cs) (length cs) cs) ws

  length_ranked : length ranked ≡ 1 + 3 * L + L * w
  length_ranked = length_write L w (tag (tag_of cs) (length cs) cs) ws hl fits_tags

  at_position : (j : ℕ) → j < length cs → row_saved ranked (position_at L ranked j) ≡ tag_of cs (get_or (positions_of cs) j 0)
  at_position j h =
      let q = get_or (positions_of cs) j 0 in
      let lq : get_or (positions_of cs) j 0 < length cs = positions_of_below L w cs ws hl fit j h in
      rw (write_pos L w (tag (tag_of cs) (length cs) cs) ws hl fits_tags j (rw n_tags h), tag_position (tag_of cs) (length cs) cs)
      (write_saved L w (tag (tag_of cs) (length cs) cs) ws hl fits_tags (get_or (positions_of cs) j 0) (rw n_tags lq)
      ∙ ap (λ (x : Stored). x.saved) (tag_at (tag_of cs) (length cs) cs (get_or (positions_of cs) j 0) lq lq))

  picks : (j : ℕ) → j ≤ length cs
      → pick_first L ranked j ≡ pick (λ q. stays (saved_of cs q)) (rank (saved_of cs)) (take j (positions_of cs))
  picks zero h = pick_first_none L ranked ∙ sym (order.pick_nil (λ q. stays (saved_of cs q)) (rank (saved_of cs)))
  picks (suc j) h =
      let st : ℕ → Bool = λ q. stays (saved_of cs q) in
      let lq : get_or (positions_of cs) j 0 < length cs = positions_of_below L w cs ws hl fit j h in
      let lx : j < length (positions_of cs) = rw length_positions_of h in
      let ev = at_position j h in
      let es : stays (row_saved ranked (position_at L ranked j)) ≡ stays (saved_of cs (get_or (positions_of cs) j 0)) = ap stays ev
      ∙ stays_tag cs low (get_or (positions_of cs) j 0) in
      let er : row_saved ranked (position_at L ranked j) / 4 ≡ rank (saved_of cs) (get_or (positions_of cs) j 0) =
      ap (λ (x : ℕ). x / 4) ev ∙ quarter (saved_of cs (get_or (positions_of cs) j 0)) (rank (saved_of cs) (get_or (positions_of cs) j 0))
      (low (get_or (positions_of cs) j 0) lq) in
      let ih = picks j (le_of_lt h) in
      rw (take-suc (positions_of cs) j 0 lx, order.pick_more st (rank (saved_of cs)) (take j (positions_of cs)) (get_or (positions_of cs) j 0))
      (by (stays (saved_of cs (get_or (positions_of cs) j 0)))
      (λ e. rw (e, pick_first_yes L ranked j (es ∙ e), er, ih))
      (λ e. rw (e, pick_first_no L ranked j (es ∙ e), ih)))
    where
      quarter : (s r : ℕ) → s ≤ 3 → (s + 4 * r) / 4 ≡ r
      quarter s r l = omega arith

  position_new : pick_first L ranked (length cs) ≡ positions_of (kept_chunks cs)
  position_new =
      picks (length cs) (le_refl (length cs))
      ∙ ap (pick (λ q. stays (saved_of cs q)) (rank (saved_of cs))) (take_all (length cs) (positions_of cs) (rw length_positions_of (le_refl (length cs))))
      ∙ position_kept cs (length cs) low refl apart ∙ ap positions_of (kept_first_kept cs)

  few_new : length (pick_first L ranked (length cs)) ≤ L
  few_new = let z = pick_first_few L ranked (length cs) in omega (arith, fit.few)

  -- and with the new positions
  abbrev renumbered : List ℕ
  renumbered = put_positions L (pick_first L ranked (length cs)) ranked

  pub read_renumbered : read_log L w renumbered ≡ tag (tag_of cs) (length cs) cs
  read_renumbered =
      read_put L w (pick_first L ranked (length cs)) ranked length_ranked few_new
      ∙ read_write L w (tag (tag_of cs) (length cs) cs) ws hl fits_tags

  bare_position : over (positions_of cs) (positions_in L ws) ≡ positions_in L ws
  bare_position = rw ecs (position_over L w ws hl few ix)

  bare_cells : over (enc_all cell_of cs) (cells_in L ws) ≡ cells_in L ws
  bare_cells = rw ecs (cells_over L w ws hl few)

  -- any saved words: positions and cells stay
  tag_positions : (g : ℕ → ℕ) → positions_in L (write_log L (tag g (length cs) cs) ws) ≡ positions_in L ws
  tag_positions g = write_position L w (tag g (length cs) cs) ws hl (tag_fits g (length cs) fit) ∙ rw (tag_position g (length cs) cs) bare_position

  tag_cell_words : (g : ℕ → ℕ) → cells_in L (write_log L (tag g (length cs) cs) ws) ≡ cells_in L ws
  tag_cell_words g = write_cells L w (tag g (length cs) cs) ws hl (tag_fits g (length cs) fit) ∙ rw (tag_cells g (length cs) cs) bare_cells

  rows_swept : over (enc_all row_of (map plain cs)) (rows_in L renumbered) ≡ rows_in L (write_log L (map plain cs) ws)
  rows_swept =
      let p : tag (plain_of cs) (length cs) cs ≡ map plain cs = tag_map (λ x. x.saved % 2) cs in
      let fp : Fits L w (map plain cs) = rw (← p) (tag_fits (plain_of cs) (length cs) fit) in
      let lp : length (map plain cs) ≡ length cs = ap length (sym p) ∙ tag_length (plain_of cs) (length cs) cs in
      ap (over (enc_all row_of (map plain cs))) (put_rows L w (pick_first L ranked (length cs)) ranked length_ranked few_new
      ∙ write_rows L w (tag (tag_of cs) (length cs) cs) ws hl fits_tags)
      ∙ over_over (enc_all row_of (map plain cs)) (enc_all row_of (tag (tag_of cs) (length cs) cs)) (rows_in L ws)
      (rw (length_row_words (tag (tag_of cs) (length cs) cs), length_row_words (map plain cs), n_tags, lp) (le_refl (2 * length cs)))
      ∙ sym (write_rows L w (map plain cs) ws hl fp)

  position_swept : positions_in L renumbered ≡ over (positions_of (kept_chunks cs)) (positions_in L (write_log L (map plain cs) ws))
  position_swept =
      put_in L w (pick_first L ranked (length cs)) ranked length_ranked few_new
      ∙ rw (position_new, ← tag_map (λ x. x.saved % 2) cs, tag_positions (tag_of cs), tag_positions (plain_of cs))

  cells_swept : cells_in L renumbered ≡ cells_in L (write_log L (map plain cs) ws)
  cells_swept =
      put_cells L w (pick_first L ranked (length cs)) ranked length_ranked few_new
      ∙ rw (← tag_map (λ x. x.saved % 2) cs, tag_cell_words (tag_of cs), tag_cell_words (plain_of cs))

  -- what the passes leave
  pub swept : set (packing L (tag (tag_of cs) (length cs) cs) (length cs) renumbered) 0 (length (kept_first (tag (tag_of cs) (length cs) cs) (length cs)))
      ≡ write_log L (kept_chunks cs) (write_log L (map plain cs) ws)
  swept =
      set_packing L (tag (tag_of cs) (length cs) cs) (length cs) renumbered (length (kept_first (tag (tag_of cs) (length cs) cs) (length cs)))
      ∙ rw (kept_tags cs low, plain_tags cs low, rows_swept, position_swept, cells_swept) (sym (write_as L (kept_chunks cs) (write_log L (map plain cs) ws)))

-- ---- where the passes start
over_none : (X : List ℕ) → over [] X ≡ X
unfolding over
over_none X = refl

enc_none : (enc : Stored → List ℕ) → enc_all enc [] ≡ []
unfolding enc_all
enc_none enc = refl

pub pack_start : (L w : ℕ) (ws : List ℕ) → length ws ≡ 1 + 3 * L + L * w → get_or ws 0 0 ≤ L → ws ≡ packing L (read_log L w ws) 0 ws
unfolding packing tag
pack_start L w ws hl few =
    rw (kept_first_none (read_log L w ws), enc_none row_of, enc_none cell_of, over_none, over_none (cells_in L ws), rows_over L w ws hl few) (regions L w ws hl)

-- what the passes ask of the words with ranks
module _ (L w : ℕ) (ws : List ℕ) (hl : length ws ≡ 1 + 3 * L + L * w) (cs : List Stored) (fit : Fits L w cs) (g : ℕ → ℕ) where
  pub tagged_pos : (j : ℕ) → j < length cs → position_at L (write_log L (tag g (length cs) cs) ws) j < length cs
  tagged_pos j h =
      rw (write_pos L w (tag g (length cs) cs) ws hl (tag_fits g (length cs) fit) j (rw tag_length h), tag_position g (length cs) cs)
      (positions_of_below L w cs ws hl fit j h)

  pub tagged_count : get_or (write_log L (tag g (length cs) cs) ws) 0 0 ≡ length cs
  tagged_count = write_count L w (tag g (length cs) cs) ws hl (tag_fits g (length cs) fit) ∙ tag_length g (length cs) cs

pub put_keeps_count : (L : ℕ) (xs ws : List ℕ) → get_or (put_positions L xs ws) 0 0 ≡ get_or ws 0 0
unfolding put_positions lay
put_keeps_count L xs ws = refl
