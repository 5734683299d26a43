-- Entries in a table's words: read, written, and what a change of the rows is of the entries.
use mathlib.Core.Path.{◌≡◌, sym, ap, ◌∙◌}
use Rattle.std.proofs.Common.{Result, Ok, Err, is_ok}
use mathlib.Core.Logic.{◌≢◌}
use mathlib.Core.Bool.{Bool, true, false}
use mathlib.Core.List.{List, [], ◌∷◌, ◌++◌}
use Prim.Native.Nat.{ℕ, ◌+◌, ◌*◌, ◌≤◌, ◌<◌}
use native.Mathlib.Nat.{le_refl, add-zero}
use native.Mathlib.Omega.{arith}
use lib.Dec.{ltb, eqb}
use lib.ListN.{length, get_or, take, drop, set, length-append, length-take, length-drop, length-set}
use lib.Seq.{get_or-take, get_or-drop, ext_get_or}
use borrow.Author.Tests.{eqb-true, eq-eqb, ltb-true}
use Rattle.lists.specs.Tests.{◌and◌, ◌or◌, all_below, only}
use Rattle.lists.specs.Runs.{run, on_run, enc_all}
use Rattle.lists.proofs.Tests.{by_eq, by_lt, same_test, both, and_l, and_r, all_true, all_at, length_only}
use Rattle.lists.proofs.Runs.{run_length, on_by}
use Rattle.rules.specs.Entries.{Entry, entry, key_for, has, insert, remove, takes, ascending}
use Rattle.rules.specs.Sound.{same_entries}
use Rattle.lists.specs.Rows.{table_dec, table_enc, row_words}
use Rattle.tables.specs.Tables.{insert_at, without_index, first_at, same_at, same_rows, Sorted, LowerBound, HereAt, GapAt}
use Rattle.lists.proofs.Rows.{row_at, enc_rows, in_rows}
use Rattle.tables.specs.Spots.{SpotOf}
use Rattle.codec.proofs.Laws.{table_law}
use Rattle.codec.proofs.Round.{clean_table}
use Rattle.codec.proofs.Loops.{table_is}
use Rattle.tables.proofs.Typed.{typed, typed_back, typed_over, typed_rows, typed_length, typed_insert, typed_append, typed_remove, typed_only, typed_at}
use Rattle.tables.proofs.Typed.{typed_set}
use Rattle.entries.specs.Entries.{entries_words, copied_entries, entry_at}
use Rattle.layout.specs.Contents.{entry_row}
use Rattle.layout.specs.Layout.{entries_codec}
use Rattle.layout.proofs.Codecs.{entry_exact}
use Rattle.entries.proofs.Sorted.{key_for_at, key_for_none, has_at, has_none, insert_gap, insert_here, remove_none, remove_here}
use Rattle.entries.proofs.Sorted.{ascending_of, ascending_rises, same_self, same_is}

-- what the codec of a table reads, whatever it has room for
abbrev pub entries : List ℕ → List Entry
entries ws = table_dec 2 entry_row.read ws

module _ (most : ℕ) (ws : List ℕ) (hl : length ws ≡ entries_words most) where
  -- entries written, as the codec does it
  abbrev write : List Entry → List ℕ
  write l = (entries_codec most).enc l ws

  -- ---- written and read
  pub entries_back : (l : List Entry) → length l ≤ most → entries ((entries_codec most).enc l ws) ≡ l
  entries_back l h = rw (table_is entry_row most l ws h) (typed_back entry_exact most ws hl l)

  -- over fewer entries
  pub entries_over : (k l : List Entry) → length k ≤ length l → length l ≤ most
      → (entries_codec most).enc l ((entries_codec most).enc k ws) ≡ (entries_codec most).enc l ws
  entries_over k l h few =
      ap ((entries_codec most).enc l) (table_is entry_row most k ws (omega arith))
      ∙ table_is entry_row most l (table_enc 2 entry_row.write k ws) few
      ∙ typed_over entry_exact most ws hl k l h ∙ sym (table_is entry_row most l ws few)

  pub entries_keeps : (l : List Entry) → length ((entries_codec most).enc l ws) ≡ entries_words most
  entries_keeps l = (table_law entry_exact most).keeps l ws hl

  pub entries_clean : (entries_codec most).enc (entries ws) ws ≡ ws
  entries_clean = (clean_table entry_exact most).clean ws hl tt

  -- rows that are entries, written
  as_entries : (l : List Entry) (v : List ℕ) → v ≡ table_enc 2 entry_row.write l ws → length l ≤ most → v ≡ write l
  as_entries l v e h = e ∙ sym (table_is entry_row most l ws h)

  module _ (few : get_or ws 0 0 ≤ most) where
    pub entries_length : length (entries ws) ≡ get_or ws 0 0
    entries_length = typed_length entry_exact most ws hl few

    pub at_words : (i : ℕ) → i < get_or ws 0 0 → entry_at (entries ws) i ≡ entry (get_or ws (1 + i * 2) 0) (get_or ws (2 + i * 2) 0)
    unfolding table_dec
    at_words i h =
        let e : 1 + (i * 2 + 1) ≡ 2 + i * 2 = omega arith in
        let z : i * 2 + 0 ≡ i * 2 = omega arith in
        row_at 2 entry_row.read (get_or ws 0 0) i (drop 1 ws) (entry 0 0) h
        ∙ rw (
          get_or-take 2 (drop (i * 2) (drop 1 ws)) 0 0 (omega arith),
          get_or-take 2 (drop (i * 2) (drop 1 ws)) 1 0 (omega arith),
          get_or-drop (i * 2) (drop 1 ws) 0 0,
          get_or-drop (i * 2) (drop 1 ws) 1 0,
          z,
          get_or-drop 1 ws (i * 2) 0,
          get_or-drop 1 ws (i * 2 + 1) 0,
          e,
        )

    pub block_at : (i : ℕ) → i < get_or ws 0 0 → (entry_at (entries ws) i).block ≡ first_at 2 ws i
    block_at i h = ap (λ (e : Entry). e.block) (at_words i h)

    pub key_word : (i : ℕ) → i < get_or ws 0 0 → (entry_at (entries ws) i).key ≡ get_or ws (2 + i * 2) 0
    key_word i h = ap (λ (e : Entry). e.key) (at_words i h)

    -- ---- rows put in, set, taken out, kept
    pub put_row : (p b k : ℕ) → get_or ws 0 0 < most
        → table_enc 2 row_words (insert_at p (b ∷ k ∷ []) (table_dec 2 row_words ws)) ws ≡ write (insert_at p (entry b k) (entries ws))
    put_row p b k h =
        let n = entries_length in
        as_entries (insert_at p (entry b k) (entries ws)) _ (typed_insert entry_exact most ws hl few p (entry b k))
        (simp (length-append, length-take, length-drop) (omega arith))

    pub set_key : (p k : ℕ) → p < get_or ws 0 0
        → table_enc 2 row_words (set (table_dec 2 row_words ws) p (set (get_or (table_dec 2 row_words ws) p []) 1 k)) ws
        ≡ write (set (entries ws) p (entry (entry_at (entries ws) p).block k))
    set_key p k h =
        let e = entry (entry_at (entries ws) p).block k in
        as_entries (set (entries ws) p e) _
        (rw (typed_at entry_exact most ws hl few p (entry 0 0) h) (typed_set entry_exact most ws hl few p e)) (rw (length-set, entries_length) few)

    pub drop_row : (p : ℕ) → table_enc 2 row_words (without_index p (table_dec 2 row_words ws)) ws ≡ write (without_index p (entries ws))
    drop_row p =
        let n = entries_length in
        as_entries (without_index p (entries ws)) _ (typed_remove entry_exact most ws hl few p) (simp (length-append, length-take, length-drop) (omega arith))

    pub keep_rows : (test : List ℕ → Bool) (p : Entry → Bool) → ((e : Entry) → test (entry_row.write e) ≡ p e)
        → table_enc 2 row_words (only test (table_dec 2 row_words ws)) ws ≡ write (only p (entries ws))
    keep_rows test p e =
        let n = entries_length in
        let m = length_only p (entries ws) in
        as_entries (only p (entries ws)) _ (typed_only entry_exact most ws hl few test p e) (omega arith)

    -- ---- at the end
    pub append_leaves : (n b k : ℕ) → n ≡ get_or ws 0 0 → get_or ws 0 0 < most
        → table_enc 2 row_words (insert_at n (b ∷ k ∷ []) (table_dec 2 row_words ws)) ws ≡ write (entries ws ++ entry b k ∷ [])
    append_leaves n b k e h =
        let m = entries_length in
        as_entries (entries ws ++ entry b k ∷ []) _ (typed_append entry_exact most ws hl few n (entry b k) e) (rw length-append (omega arith))

-- ---- room
pub takes_room : (most : ℕ) (l : List Entry) (b : ℕ) → has l b ≡ false → takes most l b ≡ ltb (length l) most
unfolding takes ◌or◌
takes_room most l b n = rw n

pub takes_has : (most : ℕ) (l : List Entry) (b : ℕ) → has l b ≡ true → takes most l b ≡ true
unfolding takes ◌or◌
takes_has most l b y = rw y

-- ---- a sorted table
module _ (most : ℕ) (ws : List ℕ) (len : ℕ) (hl : length ws ≡ entries_words most) (s : Sorted 2 most ws len) where
  below : (b p : ℕ) → LowerBound 2 ws b p → (j : ℕ) → j < p → (entry_at (entries ws) j).block < b
  below b p pl j h = let w = pl.within in rw (block_at most ws hl s.few j (omega arith)) (pl.before j h)

  -- ---- the block is there
  module _ (b p : ℕ) (h : HereAt 2 ws b p) where
    here_in : p < length (entries ws)
    here_in = rw (entries_length most ws hl s.few) h.in_use

    here_block : (entry_at (entries ws) p).block ≡ b
    here_block = block_at most ws hl s.few p h.in_use ∙ h.same

    pub key_for_found : key_for (entries ws) b ≡ (entry_at (entries ws) p).key
    key_for_found = key_for_at b (entries ws) p here_in (λ j q e. let z = below b p h.bound j q in omega arith) here_block

    pub has_here : has (entries ws) b ≡ true
    has_here = has_at b (entries ws) p here_in here_block

    pub put_here : (k : ℕ) → table_enc 2 row_words (set (table_dec 2 row_words ws) p (set (get_or (table_dec 2 row_words ws) p []) 1 k)) ws
        ≡ (entries_codec most).enc (insert (entries ws) b k) ws
    put_here k =
        set_key most ws hl s.few p k h.in_use
        ∙ rw here_block (ap (λ (l : List Entry). (entries_codec most).enc l ws) (sym (insert_here b k (entries ws) p here_in (below b p h.bound) here_block)))

    pub remove_leaves : table_enc 2 row_words (without_index p (table_dec 2 row_words ws)) ws ≡ (entries_codec most).enc (remove (entries ws) b) ws
    remove_leaves =
        drop_row most ws hl s.few p
        ∙ ap (λ (l : List Entry). (entries_codec most).enc l ws) (sym (remove_here b (entries ws) p here_in
        (λ j q n e. let i : j < get_or ws 0 0 = rw (entries_length most ws hl s.few) at q in apart j i n (sym (block_at most ws hl s.few j i)
        ∙ e)) here_block))
      where
        apart : (j : ℕ) → j < get_or ws 0 0 → j ≢ p → first_at 2 ws j ≢ b
        apart j q n e =
            let hs = h.same in
            by_lt j p (λ _ l. let z = s.rising j p l h.in_use in omega arith)
            (λ _ l. let g : p < j = omega arith in let z = s.rising p j g q in omega arith)

  -- ---- the block is not there
  module _ (b p : ℕ) (g : GapAt 2 ws b p) where
    gap_after : p < get_or ws 0 0 → b < first_at 2 ws p
    gap_after q = let z = g.bound.after p (le_refl p) q in let n = g.other q in by_eq (first_at 2 ws p) b (λ _ e. absurd (n e)) (λ _ e. omega arith)

    gap_apart : (j : ℕ) → j < length (entries ws) → (entry_at (entries ws) j).block ≢ b
    gap_apart j q e =
        let i : j < get_or ws 0 0 = rw (entries_length most ws hl s.few) at q in
        let f : first_at 2 ws j ≡ b = sym (block_at most ws hl s.few j i) ∙ e in
        by_lt j p (λ _ l. let z = g.bound.before j l in omega arith)
        (λ _ l. let a = gap_after (omega arith) in
        by_eq j p (λ _ u. let v : first_at 2 ws j ≡ first_at 2 ws p = rw u in omega arith)
        (λ _ u. let k : p < j = omega arith in let z = s.rising p j k i in omega arith))

    pub key_for_gap : key_for (entries ws) b ≡ 0
    key_for_gap = key_for_none b (entries ws) gap_apart

    pub has_gap : has (entries ws) b ≡ false
    has_gap = has_none b (entries ws) gap_apart

    -- a new block that the table takes finds room
    pub gap_room : takes most (entries ws) b ≡ true → get_or ws 0 0 < most
    gap_room t = rw (← entries_length most ws hl s.few) (ltb-true _ _ (sym (takes_room most (entries ws) b has_gap) ∙ t))

    pub put_gap : (k : ℕ) → takes most (entries ws) b ≡ true
        → table_enc 2 row_words (insert_at p (b ∷ k ∷ []) (table_dec 2 row_words ws)) ws ≡ (entries_codec most).enc (insert (entries ws) b k) ws
    put_gap k t =
        let w = g.bound.within in
        put_row most ws hl s.few p b k (gap_room t)
        ∙ ap (λ (l : List Entry). (entries_codec most).enc l ws) (sym (insert_gap b k (entries ws) p (rw (entries_length most ws hl s.few) w)
        (below b p g.bound)
        (λ q. let i : p < get_or ws 0 0 = rw (entries_length most ws hl s.few) at q in rw (block_at most ws hl s.few p i) (gap_after i))))

    pub remove_gap : ws ≡ (entries_codec most).enc (remove (entries ws) b) ws
    remove_gap = sym (ap (λ (l : List Entry). (entries_codec most).enc l ws) (remove_none b (entries ws) gap_apart) ∙ entries_clean most ws hl)

  -- ---- either
  pub has_spot : (b : ℕ) (spot : Result ℕ ℕ) → SpotOf 2 ws b spot → is_ok spot ≡ has (entries ws) b
  has_spot b (Ok p) h = sym (has_here b p h)
  has_spot b (Err p) g = sym (has_gap b p g)

-- ---- the checks
module _ (most : ℕ) (ws : List ℕ) (hl : length ws ≡ entries_words most) (few : get_or ws 0 0 ≤ most) where
  pub rises_of : ascending 0 (entries ws) ≡ true → (i j : ℕ) → i < j → j < get_or ws 0 0 → first_at 2 ws i < first_at 2 ws j
  rises_of y i j p h =
      rw (block_at most ws hl few i (omega arith), block_at most ws hl few j h) at
      (ascending_rises 0 (entries ws) y i j p (rw (entries_length most ws hl few) h))

module _ (most : ℕ) (ws vs : List ℕ) (hl : length ws ≡ entries_words most) (hv : length vs ≡ entries_words most) (few : get_or ws 0 0 ≤ most)
    (fewv : get_or vs 0 0 ≤ most) where
  words_same : get_or ws 0 0 ≡ get_or vs 0 0 → all_below (get_or ws 0 0 * 2) (same_at ws vs) ≡ true → entries ws ≡ entries vs
  words_same e y =
      ext_get_or (entry 0 0) (entries ws) (entries vs) (entries_length most ws hl few ∙ e ∙ sym (entries_length most vs hv fewv))
      (λ i h. let q : i < get_or ws 0 0 = rw (entries_length most ws hl few) at h in
      let a : get_or ws (1 + i * 2) 0 ≡ get_or vs (1 + i * 2) 0 = eqb-true _ _ (all_at (get_or ws 0 0 * 2) (same_at ws vs) y (i * 2) (omega arith)) in
      let z : 1 + (i * 2 + 1) ≡ 2 + i * 2 = omega arith in
      let b : get_or ws (2 + i * 2) 0 ≡ get_or vs (2 + i * 2) 0 = rw z at
      (eqb-true (get_or ws (1 + (i * 2 + 1)) 0) (get_or vs (1 + (i * 2 + 1)) 0) (all_at (get_or ws 0 0 * 2) (same_at ws vs) y (i * 2 + 1) (omega arith))) in
      at_words most ws hl few i q ∙ rw (a, b) (sym (at_words most vs hv fewv i (rw (← e) q))))

  entries_same : entries ws ≡ entries vs → (i : ℕ) → i < get_or ws 0 0 * 2 → same_at ws vs i ≡ true
  unfolding table_dec
  entries_same e i h =
      let n : get_or ws 0 0 ≡ get_or vs 0 0 = sym (entries_length most ws hl few) ∙ ap length e ∙ entries_length most vs hv fewv in
      let t : take (get_or ws 0 0 * 2) (drop 1 ws) ≡ take (get_or vs 0 0 * 2) (drop 1 vs) =
      sym (enc_rows 2 entry_row.read entry_row.write entry_exact.exact (get_or ws 0 0) (drop 1 ws) (in_rows 2 most ws hl few)) ∙ ap
      (enc_all entry_row.write) e
      ∙ enc_rows 2 entry_row.read entry_row.write entry_exact.exact (get_or vs 0 0) (drop 1 vs) (in_rows 2 most vs hv fewv) in
      let g : get_or (take (get_or ws 0 0 * 2) (drop 1 ws)) i 0 ≡ get_or (take (get_or vs 0 0 * 2) (drop 1 vs)) i 0 = ap (λ (l : List ℕ). get_or l i 0) t in
      eq-eqb _ _ (sym (get_or-take (get_or ws 0 0 * 2) (drop 1 ws) i 0 h ∙ get_or-drop 1 ws i 0) ∙ g
      ∙ get_or-take (get_or vs 0 0 * 2) (drop 1 vs) i 0 (omega arith) ∙ get_or-drop 1 vs i 0)

  pub same_is_rows : same_rows 2 ws vs ≡ same_entries (entries ws) (entries vs)
  unfolding same_rows
  same_is_rows =
      same_test (eqb (get_or ws 0 0) (get_or vs 0 0) and all_below (get_or ws 0 0 * 2) (same_at ws vs)) (same_entries (entries ws) (entries vs))
      (λ y. rw (words_same (eqb-true _ _ (and_l _ _ y)) (and_r _ _ y)) (same_self (entries vs)))
      (λ y. let e = same_is (entries ws) (entries vs) y in
      both _ _ (eq-eqb _ _ (sym (entries_length most ws hl few) ∙ ap length e ∙ entries_length most vs hv fewv))
      (all_true (get_or ws 0 0 * 2) (same_at ws vs) (entries_same e)))

-- ---- a table copied over another
pub copy_leaves : (most from to : ℕ) (ws : List ℕ) → from + entries_words most ≤ length ws → get_or ws from 0 ≤ most
    → on_run to (entries_words most) (table_enc 2 row_words (table_dec 2 row_words (run from (entries_words most) ws))) ws
    ≡ copied_entries most from to ws
copy_leaves most from to ws h few =
    let t = run from (entries_words most) ws in
    let v = run to (entries_words most) ws in
    let l : length t ≡ entries_words most = run_length from (entries_words most) ws h in
    let c : get_or t 0 0 ≡ get_or ws from 0 = get_or-take (entries_words most) (drop from ws) 0 0 (omega arith) ∙ get_or-drop from ws 0 0 ∙ rw (add-zero from) in
    let f : get_or t 0 0 ≤ most = rw c few in
    on_by to (entries_words most) (table_enc 2 row_words (table_dec 2 row_words t)) ((entries_codec most).enc (entries t)) ws
    (typed entry_row (entries t) (table_dec 2 row_words t) (typed_rows entry_exact most t l f) v
    ∙ sym (table_is entry_row most (entries t) v (rw (entries_length most t l f) f)))

-- ---- a sorted table, by its entries
pub sorted_of : (most : ℕ) (ws : List ℕ) (len : ℕ) → length ws ≡ entries_words most → len ≡ 8 * entries_words most → get_or ws 0 0 ≤ most
    → ascending 0 (entries ws) ≡ true → Sorted 2 most ws len
sorted_of most ws len hl e few y = record { few = few; size = e; wide = omega arith; rising = rises_of most ws hl few y }

pub sorted_ascends : (most : ℕ) (ws : List ℕ) (len : ℕ) → length ws ≡ entries_words most → Sorted 2 most ws len → ascending 0 (entries ws) ≡ true
sorted_ascends most ws len hl s =
    ascending_of 0 (entries ws) (λ i h. omega arith) (λ i j p h. let q : j < get_or ws 0 0 = rw (entries_length most ws hl s.few) at h in
    rw (block_at most ws hl s.few i (omega arith), block_at most ws hl s.few j q) (s.rising i j p q))
