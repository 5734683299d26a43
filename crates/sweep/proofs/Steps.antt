-- What the passes leave, from what their turns leave.
use mathlib.Core.Path.{◌≡◌, refl, sym, ap, ◌∙◌}
use mathlib.Core.Bool.{true, false}
use mathlib.Core.List.{List, append_assoc, map}
use Prim.Native.Nat.{ℕ, suc, ◌+◌, ◌*◌, ◌/◌, ◌%◌, ◌≤◌, ◌<◌}
use native.Mathlib.Nat.{le_refl}
use lib.ListN.{length, take, drop, get_or, set, take-append-drop}
use lib.Seq.{paste, drop-drop}
use borrow.Author.Tests.{eq-eqb, ne_eqb}
use Rattle.chunk_log.specs.Log.{Stored, stored_at, saved_of, cells_in, write_log, read_log, row_key, row_saved, position_at, LogWith, Fits}
use Rattle.chunk_log.specs.Steps.{tag}
use Rattle.chunk_log.proofs.Chunks.{length_read, read_saved, read_cell, sized_read, fits_read, write_saved}
use Rattle.chunk_log.proofs.Changes.{tag_length, tag_fits}
use Rattle.chunk_log.proofs.Steps.{sizes, count_is, tagged, tag_start}
use Rattle.sweep.specs.Sweep.{RenumberStep, PackStep, stays, plain, kept_chunks, kept_first, rank, tag_of, next_by, pick_first, put_positions, numbered}
use Rattle.sweep.specs.Sweep.{packing, moved, packed, triple_of}
use Rattle.sweep.proofs.Tags.{tag_past}
use Rattle.sweep.proofs.Kept.{kept_first_few}
use Rattle.sweep.proofs.Passes.{pick_first_next, pick_first_few, put_pos, put_sav, numbered_turn, put_none, pack_saved, pack_next, packed_turn}
use Rattle.sweep.proofs.Swept.{read_renumbered, swept, tagged_pos, tagged_count, put_keeps_count}
use Rattle.words.specs.Words.{words}

pub paste_self : (X : List ℕ) (a n : ℕ) → X ≡ paste X a (drop a X) n
paste_self X a n =
    sym (rw (append_assoc, ← drop-drop n a X, take-append-drop n (drop a X)) (take-append-drop a X))

module _ {top : ℕ} (L w : ℕ) (s : List ℕ) (o : LogWith top L w (words s) (length s)) where
  pub saved_low : (i : ℕ) → i < length (read_log L w (words s)) → saved_of (read_log L w (words s)) i ≤ top
  saved_low i h =
      let q : i < get_or (words s) 0 0 = rw (count_is L w s o) at h in
      rw (read_saved L w (words s) (sizes L w s o) o.few i q) (o.flags i q)

  -- what a pass reads in the next row
  pub next_saved : (g : ℕ → ℕ) (i : ℕ) (t : List ℕ) → i < get_or (words s) 0 0 → t ≡ write_log L (tag g i (read_log L w (words s))) (words s)
      → row_saved t i ≡ saved_of (read_log L w (words s)) i
  next_saved g i t h e =
      let cs : List Stored = read_log L w (words s) in
      let hl = sizes L w s o in
      rw (
        e,
        write_saved L w (tag g i (read_log L w (words s))) (words s) hl (tag_fits g i (fits_read L w (words s) hl o.few)) i
            (rw (tag_length, count_is L w s o) h),
      )
      (ap (λ (x : Stored). x.saved) (tag_past g i (read_log L w (words s)) i (le_refl i)))

pub rank_start : (f : ℕ → ℕ) → rank f 0 ≡ 0
unfolding rank
rank_start f = refl

pub rank_next : (f : ℕ → ℕ) (i : ℕ) → rank f (suc i) ≡ rank f i + f i / 2
unfolding rank
rank_next f i = refl

-- the steps of one row
pub yes_stays : (v : ℕ) → v % 4 / 2 ≡ 1 → stays v ≡ true
yes_stays v e = eq-eqb (v % 4 / 2) 1 e

pub no_stays : (v : ℕ) → (v % 4 / 2 ≡ 1 → ⊥) → stays v ≡ false
no_stays v e = ne_eqb (v % 4 / 2) 1 e

module _ (L j o : ℕ) (ws : List ℕ) (q v : ℕ) (eq : q ≡ position_at L ws j) (ev : v ≡ row_saved ws q) where
  pub numbered_yes : (ws1 : List ℕ) → v % 4 / 2 ≡ 1 → ws1 ≡ set ws (1 + 2 * L + o) (v / 4)
      → RenumberStep L j o ws ws1 (o + 1)
  unfolding numbered
  numbered_yes ws1 h e = record { words = rw (← eq, ← ev, yes_stays v h) e; next = rw (← eq, ← ev, yes_stays v h) }

  pub numbered_no : (v % 4 / 2 ≡ 1 → ⊥) → RenumberStep L j o ws ws o
  unfolding numbered
  numbered_no h = record { words = rw (← eq, ← ev, no_stays v h); next = rw (← eq, ← ev, no_stays v h) }

pub moved_by : (L w i o from to : ℕ) (ws ws1 : List ℕ) → from ≡ i * w → to ≡ o * w → ws1 ≡ paste ws (1 + 3 * L + to) (drop (1 + 3 * L + from) ws) w → ws1
    ≡ moved L w i o ws
unfolding moved
moved_by L w i o from to ws ws1 ef et e = rw (← ef, ← et) e

module _ (L w i o : ℕ) (ws : List ℕ) (k v : ℕ) (ek : k ≡ row_key ws i) (ev : v ≡ row_saved ws i) (w1 : List ℕ) (e1 : w1 ≡ set ws (2 + 2 * i) (v % 2)) where
  pub packed_yes : (w2 w3 w4 : List ℕ) → v % 4 / 2 ≡ 1 → w2 ≡ set w1 (1 + 2 * o) k → w3 ≡ set w2 (2 + 2 * o) (v % 2) → w4 ≡ moved L w i o w3
      → PackStep L w i o ws w4 (o + 1)
  unfolding packed
  packed_yes w2 w3 w4 h e2 e3 e4 =
      record { words = rw (← ev, ← ek, yes_stays v h, e4, e3, e2, e1); next = rw (← ev, yes_stays v h) }

  pub packed_no : (v % 4 / 2 ≡ 1 → ⊥) → PackStep L w i o ws w1 o
  unfolding packed
  packed_no h = record { words = rw (← ev, no_stays v h) e1; next = rw (← ev, no_stays v h) }

-- ---- turns

module _ (L w : ℕ) (s : List ℕ) (o : LogWith 3 L w (words s) (length s)) (i m v : ℕ) (t : List ℕ) (h : i < get_or (words s) 0 0)
    (et : t ≡ write_log L (tag (tag_of (read_log L w (words s))) i (read_log L w (words s))) (words s))
    (em : m ≡ rank (saved_of (read_log L w (words s))) i) (ev : v ≡ row_saved t i) where
  pub rank_read : v ≡ saved_of (read_log L w (words s)) i
  rank_read = ev ∙ next_saved L w s o (tag_of (read_log L w (words s))) i t h et

  pub rank_small : v ≤ 3
  rank_small = rw rank_read (saved_low L w s o i (rw (count_is L w s o) h))

  pub rank_turn : set t (2 + 2 * i) (v + 4 * m) ≡ write_log L (tag (tag_of (read_log L w (words s))) (suc i) (read_log L w (words s))) (words s)
  rank_turn =
      tagged L w s o (tag_of (read_log L w (words s))) i (v + 4 * m) (2 + 2 * i) t h (rw (rank_read, em)) refl et

  pub rank_sum : m + v / 2 ≡ rank (saved_of (read_log L w (words s))) (suc i)
  rank_sum = rw (rank_read, em) (sym (rank_next (saved_of (read_log L w (words s))) i))

module _ (L w : ℕ) (s : List ℕ) (o : LogWith 1 L w (words s) (length s)) (i v : ℕ) (t : List ℕ) (h : i < get_or (words s) 0 0)
    (et : t ≡ write_log L (tag (triple_of (read_log L w (words s))) i (read_log L w (words s))) (words s)) (ev : v ≡ row_saved t i) where
  pub triple_read : v ≡ saved_of (read_log L w (words s)) i
  triple_read = ev ∙ next_saved L w s o (triple_of (read_log L w (words s))) i t h et

  pub triple_small : v ≤ 1
  triple_small = rw triple_read (saved_low L w s o i (rw (count_is L w s o) h))

  pub triple_turn : set t (2 + 2 * i) (3 * v) ≡ write_log L (tag (triple_of (read_log L w (words s))) (suc i) (read_log L w (words s))) (words s)
  triple_turn = tagged L w s o (triple_of (read_log L w (words s))) i (3 * v) (2 + 2 * i) t h (rw triple_read) refl et

module _ (L w : ℕ) (ws : List ℕ) (hl : length ws ≡ 1 + 3 * L + L * w) (j : ℕ) (h : j < L) (hp : position_at L ws j < L) (t : List ℕ) (p : ℕ)
    (et : t ≡ put_positions L (pick_first L ws j) ws) (ep : p ≡ length (pick_first L ws j)) where
  pub renum_pos : position_at L t j ≡ position_at L ws j
  renum_pos = rw et (put_pos L w ws hl (pick_first L ws j) j (pick_first_few L ws j) h)

  pub renum_low : p ≤ j
  renum_low = rw ep (pick_first_few L ws j)

  pub renum_turn : (t1 : List ℕ) → t1 ≡ numbered L j p t → t1 ≡ put_positions L (pick_first L ws (suc j)) ws
  renum_turn t1 e = e ∙ rw (ep, et) (numbered_turn L w ws hl j h hp)

  pub renum_next : (r : ℕ) → r ≡ next_by (row_saved t (position_at L t j)) p → r ≡ length (pick_first L ws (suc j))
  renum_next r e =
      let es : row_saved t (position_at L ws j) ≡ row_saved ws (position_at L ws j) = rw et (put_sav L w ws hl (pick_first L ws j) (position_at L ws j) hp) in
      e ∙ rw (renum_pos, es, ep) (pick_first_next L ws j)

module _ (L w : ℕ) (ws : List ℕ) (hl : length ws ≡ 1 + 3 * L + L * w) (few : get_or ws 0 0 ≤ L) (i : ℕ) (h : i < get_or ws 0 0) (t : List ℕ) (p : ℕ)
    (et : t ≡ packing L (read_log L w ws) i ws) (ep : p ≡ length (kept_first (read_log L w ws) i)) where
  inside : i < length (read_log L w ws)
  inside = rw (length_read L w ws hl few) h

  cell_at : (k : ℕ) → k < length (read_log L w ws) → (stored_at (read_log L w ws) k).cell ≡ take w (drop (k * w) (cells_in L ws))
  cell_at k q = read_cell L w ws hl few k (rw (length_read L w ws hl few) at q)

  fits : length (read_log L w ws) ≤ L
  fits = rw (length_read L w ws hl few) few

  pub pack_low : p ≤ i
  pack_low = rw ep (kept_first_few (read_log L w ws) i)

  pub pack_turn : (t1 : List ℕ) → t1 ≡ packed L w i p t → t1 ≡ packing L (read_log L w ws) (suc i) ws
  pack_turn t1 e = e ∙ rw (ep, et) (packed_turn L w ws hl (read_log L w ws) fits (sized_read L w ws hl few) cell_at i inside)

  pub pack_step : (r : ℕ) → r ≡ next_by (row_saved t i) p → r ≡ length (kept_first (read_log L w ws) (suc i))
  pack_step r e =
      e ∙ rw (et, pack_saved L w ws hl (read_log L w ws) fits (sized_read L w ws hl few) cell_at i inside, ep)
      (pack_next L w ws hl (read_log L w ws) fits (sized_read L w ws hl few) cell_at i inside)

-- ---- starts and ends

pub triple_start : (L w : ℕ) (s : List ℕ) (o : LogWith 1 L w (words s) (length s)) → words s
    ≡ write_log L (tag (triple_of (read_log L w (words s))) 0 (read_log L w (words s))) (words s)
triple_start L w s o = tag_start L w s o (triple_of (read_log L w (words s)))

pub renum_start : (L w : ℕ) (ws : List ℕ) → length ws ≡ 1 + 3 * L + L * w → ws ≡ put_positions L (pick_first L ws 0) ws
unfolding pick_first
renum_start L w ws hl = put_none L w ws hl

pub zero_picked : (L : ℕ) (ws : List ℕ) → 0 ≡ length (pick_first L ws 0)
unfolding pick_first
zero_picked L ws = refl

pub zero_kept : (cs : List Stored) → 0 ≡ length (kept_first cs 0)
unfolding kept_first
zero_kept cs = refl

module _ (L w : ℕ) (s : List ℕ) (o : LogWith 3 L w (words s) (length s)) (n : ℕ) (en : n ≡ get_or (words s) 0 0) where
  abbrev cs : List Stored
  cs = read_log L w (words s)

  count : length (read_log L w (words s)) ≡ n
  count = count_is L w s o ∙ sym en

  hl : length (words s) ≡ 1 + 3 * L + L * w
  hl = sizes L w s o

  fit : Fits L w (read_log L w (words s))
  fit = fits_read L w (words s) hl o.few

  module _ (v1 : List ℕ) (e1 : v1 ≡ write_log L (tag (tag_of (read_log L w (words s))) n (read_log L w (words s))) (words s)) where
    first : v1 ≡ write_log L (tag (tag_of (read_log L w (words s))) (length (read_log L w (words s))) (read_log L w (words s))) (words s)
    first = rw count e1

    pub second_requires : (j : ℕ) → j < n → position_at L v1 j < n
    second_requires j h = rw (first, ← count) (tagged_pos L w (words s) hl cs fit (tag_of cs) j (rw count h))

    module _ (v2 : List ℕ) (e2 : v2 ≡ put_positions L (pick_first L v1 n) v1) where
      pub third_requires : n ≡ get_or v2 0 0
      third_requires = rw (e2, put_keeps_count L (pick_first L v1 n) v1, first, tagged_count L w (words s) hl cs fit (tag_of cs)) (sym count)

      second : v2 ≡ put_positions L (pick_first L (write_log L (tag (tag_of cs) (length cs) cs) (words s)) (length cs))
          (write_log L (tag (tag_of cs) (length cs) cs) (words s))
      second = rw (← first, count) e2

      pub swept_words : (v3 : List ℕ) (m : ℕ) → v3 ≡ packing L (read_log L w v2) n v2 → m ≡ length (kept_first (read_log L w v2) n)
          → set v3 0 m ≡ write_log L (kept_chunks (read_log L w (words s))) (write_log L (map plain (read_log L w (words s))) (words s))
      swept_words v3 m e3 em =
          let ed : read_log L w v2 ≡ tag (tag_of cs) (length cs) cs =
          rw second (read_renumbered L w (words s) hl o.few o.order cs refl (saved_low L w s o)) in
          let f3 : v3 ≡ packing L (tag (tag_of cs) (length cs) cs) (length cs)
          (put_positions L (pick_first L (write_log L (tag (tag_of cs) (length cs) cs) (words s)) (length cs))
          (write_log L (tag (tag_of cs) (length cs) cs) (words s))) =
          e3 ∙ rw (ed, ← count) (ap (packing L (tag (tag_of cs) (length cs) cs) (length cs)) second) in
          let fm : m ≡ length (kept_first (tag (tag_of cs) (length cs) cs) (length cs)) = em ∙ rw (ed, ← count) in
          rw (f3, fm) (swept L w (words s) hl o.few o.order cs refl (saved_low L w s o))
