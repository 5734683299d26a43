-- What the functions on a log leave, from what their callees leave.
use mathlib.Core.Path.{◌≡◌, refl, sym, ap, subst, ◌∙◌}
use mathlib.Core.Logic.{◌≢◌}
use mathlib.Core.Bool.{Bool, true, false, cond}
use mathlib.Core.List.{List, [], ◌∷◌, ◌++◌, map}
use Prim.Native.Nat.{ℕ, zero, suc, ◌+◌, ◌*◌, ◌-◌, ◌≤◌, ◌<◌}
use native.Mathlib.Nat.{le_refl, not-suc-le-zero, le_of_suc-le-suc, suc-mul}
use native.Mathlib.Numerals.{add-one}
use native.Mathlib.Omega.{arith}
use Rattle.lists.specs.Tests.{◌or◌}
use Rattle.rules.specs.Sound.{keys_apart}
use lib.Dec.{eqb}
use lib.ListN.{length, take, drop, get_or, set, length-append, length-map, length-set}
use lib.Seq.{paste, take_all, drop-drop, length-take-le, length-paste}
use Rattle.lists.specs.Runs.{run, Below}
use Rattle.lists.proofs.Lists.{get_or_map_in}
use Rattle.lists.proofs.Runs.{fits_in, run_length, paste_run, on_by, on_same, below_take, below_drop}
use Rattle.words.specs.Words.{words, unwords}
use Rattle.words.proofs.Laws.{length_words, lent_run, words_part, words_below, words_unwords, unwords_words}
use Rattle.rules.specs.Chunks.{Chunk, new_chunk, append, held, saved_in, save, save_all, save_key}
use Rattle.codec.specs.Codec.{change}
use Rattle.chunk_log.specs.Log.{Stored, stored, stored_at, write_log, read_log, LogWith, IsLog, KeyBound, Fits, log_size, to_chunk, from_chunk, chunk_at, log_dec}
use Rattle.chunk_log.specs.Log.{log_enc, chunks_codec, row_saved, position_at, key_by}
use Rattle.chunk_log.specs.Steps.{cell_in, with_next, entered, put_saved, with_saved, tag}
use Rattle.std.specs.Prelude.{Option, Some, None}
use Rattle.std.specs.Option.{is_some}
use Rattle.chunk_log.specs.Answers.{FoundAt, FoundIn}
use Rattle.chunk_log.proofs.Chunks.{length_read, read_cell, read_saved, fits_read, write_read, read_write, write_count, log_write, distinct_read}
use Rattle.chunk_log.proofs.Check.{found_at, found_none}
use Rattle.chunk_log.proofs.Changes.{pushed, write_hides, write_leaves, set_saved, tag_turn, tag_length, tag_fits, tag_all, cleared}
use Rattle.chunk_log.proofs.Rules.{held_at, not_held, none_to_save, found_saved, found_save}
use Rattle.chunk_log.proofs.Codec.{sized_from, fixed_same, log_enc_is, back_read, log_clean, dec_length, dec_apart}

pub counted : (s : List ℕ) (k : ℕ) → length s ≡ 8 * k → length (words s) ≡ k
counted s k e = length_words s ∙ omega arith

pub enter_steps : (L m p k s : ℕ) (w0 w1 w2 w3 w4 w5 : List ℕ)
    → w1 ≡ paste w0 (1 + 2 * L + (p + 1)) (drop (1 + 2 * L + p) w0) (m - p) → w2 ≡ set w1 (1 + 2 * L + p) m
    → w3 ≡ set w2 (1 + 2 * m) k → w4 ≡ set w3 (2 + 2 * m) s → w5 ≡ set w4 0 (m + 1) → w5 ≡ entered L m p k s w0
unfolding entered
enter_steps L m p k s w0 w1 w2 w3 w4 w5 e1 e2 e3 e4 e5 = rw (e5, e4, e3, e2, e1)

pub no_chunks : (L w : ℕ) (s : List ℕ) → length s ≡ 8 * log_size L w → set (words s) 0 0 ≡ log_enc L w [] (words s)
no_chunks L w s e = cleared L w (words s) (counted s (log_size L w) e) ∙ sym (log_enc_is L w [] (words s) (omega arith))

module _ {top : ℕ} (L w : ℕ) (s : List ℕ) (o : LogWith top L w (words s) (length s)) where
  pub sizes : length (words s) ≡ log_size L w
  sizes = counted s (log_size L w) o.size

  pub same : write_log L (read_log L w (words s)) (words s) ≡ words s
  same = write_read L w (words s) sizes o.few o.order

  pub count_is : length (read_log L w (words s)) ≡ get_or (words s) 0 0
  count_is = length_read L w (words s) sizes o.few

  pub dec_at : (p : ℕ) → p < length (read_log L w (words s)) → chunk_at (log_dec L w (words s)) p ≡ to_chunk (stored_at (read_log L w (words s)) p)
  unfolding log_dec
  dec_at p h = get_or_map_in to_chunk (read_log L w (words s)) p (new_chunk 0 false []) (stored 0 0 []) h

  -- ---- look-up
  module _ (k r : ℕ) (pl : KeyBound L (get_or (words s) 0 0) (words s) k r) where
    pub found : r < get_or (words s) 0 0 → key_by L (words s) r ≡ k → FoundAt (log_dec L w (words s)) k (position_at L (words s) r)
    found h e =
        let f = found_at L w (words s) sizes o.few o.order k r pl h e in
        record {
          in_use = rw (dec_length L w (words s) sizes, ← count_is) f.0;
          same = ap (λ (c : Chunk). c.key) (dec_at (position_at L (words s) r) f.0) ∙ f.1;
        }

    pub missing : (r < get_or (words s) 0 0 → key_by L (words s) r ≢ k) → held (log_dec L w (words s)) k ≡ false
    missing f =
        not_held (log_dec L w (words s)) k (λ i h e.
        let q : i < length (read_log L w (words s)) = rw (dec_length L w (words s) sizes, ← count_is) at h in
        found_none L w (words s) sizes o.few o.order k r pl f i q (sym (ap (λ (c : Chunk). c.key) (dec_at i q)) ∙ e))

  -- the index where a key is found is that of a row in use
  pub found_row : (k p : ℕ) → FoundAt (log_dec L w (words s)) k p → p < get_or (words s) 0 0
  found_row k p f = rw (← dec_length L w (words s) sizes) f.in_use

  found_held : (k p : ℕ) → FoundAt (log_dec L w (words s)) k p → held (log_dec L w (words s)) k ≡ true
  found_held k p f = held_at (log_dec L w (words s)) k p f.in_use f.same

  pub found_or_not : (k : ℕ) (r : Option ℕ) → FoundIn (log_dec L w (words s)) k r → is_some r ≡ held (log_dec L w (words s)) k
  found_or_not k (Some p) f = sym (found_held k p f)
  found_or_not k None e = sym e

  -- the bytes of a chunk: those of its cell, which is lent as a part
  pub cell_bytes : (p : ℕ) → p < get_or (words s) 0 0 → (chunk_at (log_dec L w (words s)) p).bytes ≡ unwords (cell_in L w p (words s))
  cell_bytes p h =
      ap (λ (x : Chunk). x.bytes) (dec_at p (rw count_is h))
      ∙ ap unwords (read_cell L w (words s) sizes o.few p h ∙ rw (drop-drop (p * w) (1 + 3 * L) (words s)))

  pub part_bytes : (p at q z : ℕ) → Below 256 s → p < get_or (words s) 0 0 → at ≡ p * w → at + w ≤ L * w → q ≡ 8 * (1 + 3 * L + at) → z ≡ 8 * w
      → (take z (drop q s) ≡ (chunk_at (log_dec L w (words s)) p).bytes) × (length (take z (drop q s)) ≡ 8 * w)
  part_bytes p at q z b h ea fits eq ez =
      let l : length (take z (drop q s)) ≡ 8 * w = run_length q z s (omega (arith, o.size)) ∙ ez in
      let c : words (take z (drop q s)) ≡ cell_in L w p (words s) =
      words_part s q z (1 + 3 * L + p * w) w (omega (arith, ea, eq)) ez (omega (arith, o.size)) in
      (sym (unwords_words (take z (drop q s)) w (below_take z (below_drop q b)) l) ∙ ap unwords c ∙ sym (cell_bytes p h), l)

  -- a turn of a loop that writes saved words
  pub tagged : (g : ℕ → ℕ) (i v q : ℕ) (t : List ℕ) → i < get_or (words s) 0 0 → v ≡ g i → q ≡ 2 + 2 * i
      → t ≡ write_log L (tag g i (read_log L w (words s))) (words s)
      → set t q v ≡ write_log L (tag g (suc i) (read_log L w (words s))) (words s)
  tagged g i v q t h ev eq et =
      let xs : List Stored = read_log L w (words s) in
      rw (et, ev)
      (set_saved L w (tag g i xs) (words s) sizes (tag_fits g i (fits_read L w (words s) sizes o.few)) i (g i) q (rw (tag_length, count_is) h) eq)
      ∙ ap (λ (l : List Stored). write_log L l (words s)) (tag_turn g i xs (rw count_is h))

  pub tag_start : (g : ℕ → ℕ) → words s ≡ write_log L (tag g 0 (read_log L w (words s))) (words s)
  unfolding tag
  tag_start g = sym same

-- ---- words d come into the cell after the last, at q, which is not in use
module _ (L w : ℕ) (ws : List ℕ) (len : ℕ) (o : IsLog L w ws len) (hl : length ws ≡ log_size L w) (room : get_or ws 0 0 < L) (d : List ℕ) (q : ℕ)
    (eq : q ≡ 1 + 3 * L + get_or ws 0 0 * w) (ld : w ≤ length d) where
  abbrev after : List ℕ
  after = paste ws q d w

  inside : get_or ws 0 0 * w + w ≤ L * w
  inside = fits_in w room

  fits : Fits L w (read_log L w ws)
  fits = fits_read L w ws hl o.few

  many : length (read_log L w ws) ≡ get_or ws 0 0
  many = length_read L w ws hl o.few

  wrote : after ≡ write_log L (read_log L w ws) after
  wrote =
      ap (λ (l : List ℕ). paste l q d w) (sym (write_read L w ws hl o.few o.order))
      ∙ write_leaves L w ws hl (get_or ws 0 0 * w) w q d eq (omega (arith, inside)) (read_log L w ws) fits (rw many)

  pub placed_length : length after ≡ log_size L w
  placed_length = length-paste ws q d w (omega (arith, inside)) ld ∙ hl

  -- the chunks are the same
  placed_read : read_log L w after ≡ read_log L w ws
  placed_read = ap (read_log L w) wrote ∙ read_write L w (read_log L w ws) after placed_length fits

  dec_placed : log_dec L w after ≡ log_dec L w ws
  unfolding log_dec
  dec_placed = ap (map to_chunk) placed_read

  pub placed_count : get_or after 0 0 ≡ get_or ws 0 0
  placed_count = ap (λ (l : List ℕ). get_or l 0 0) wrote ∙ write_count L w (read_log L w ws) after placed_length fits ∙ many

  pub placed_log : IsLog L w after len
  placed_log =
      subst (λ (l : List ℕ). IsLog L w l len) (sym wrote)
      (log_write L w (read_log L w ws) after placed_length fits
      (λ i h. let g : i < get_or ws 0 0 = rw many at h in rw (read_saved L w ws hl o.few i g) (o.flags i g))
      (distinct_read L w ws hl o.few o.order) len o.size)

  cell_placed : cell_in L w (get_or after 0 0) after ≡ take w d
  cell_placed =
      ap (λ (n : ℕ). run (1 + 3 * L + n * w) w after) placed_count ∙ ap (λ (a : ℕ). run a w after) (sym eq) ∙ ap (run q w) (paste_run ws q d w)
      ∙ on_same q w (λ _. take w d) ws (omega (arith, inside)) (length-take-le w d ld)

  -- appended there, the chunk has these bytes
  pub placed : (k : ℕ) (saved : Bool)
      → with_next L w k saved after ≡ change (chunks_codec L w) (λ l. append l (new_chunk k saved (unwords (take w d)))) ws
  placed k saved =
      let cs : List Chunk = append (log_dec L w ws) (new_chunk k saved (unwords (take w d))) in
      let few : length cs ≤ L = rw (length-append, dec_length L w ws hl) (omega arith) in
      let long : length (map (from_chunk w) cs) ≡ get_or ws 0 0 + 1 = rw (length-map, length-append, dec_length L w ws hl) (omega arith) in
      let z : (get_or ws 0 0 + 1) * w ≡ get_or ws 0 0 * w + w = rw (add-one (get_or ws 0 0), suc-mul) in
      ap (λ (b : List ℕ). log_enc L w (append (log_dec L w after) (new_chunk k saved (unwords b))) after) cell_placed
      ∙ ap (λ (l : List Chunk). log_enc L w (append l (new_chunk k saved (unwords (take w d)))) after) dec_placed
      ∙ log_enc_is L w cs after few
      ∙ write_hides L w ws hl (get_or ws 0 0 * w) w q d eq (omega (arith, inside)) (map (from_chunk w) cs) (sized_from w cs) (rw (long, z) (le_refl _)) ld
      ∙ sym (log_enc_is L w cs ws few)

-- ---- a log with no marks: the rules' chunks
module _ (L w : ℕ) (s : List ℕ) (o : IsLog L w (words s) (length s)) (b : Below 256 s) where
  pub chunks_back : map (from_chunk w) (log_dec L w (words s)) ≡ read_log L w (words s)
  chunks_back = back_read L w (words s) (sizes L w s o) (length s) o (words_below b)

  pub clean : log_enc L w (log_dec L w (words s)) (words s) ≡ words s
  clean = log_clean L w (words s) (sizes L w s o) (length s) o (words_below b)

  dec_few : length (log_dec L w (words s)) ≤ L
  dec_few = rw (dec_length L w (words s) (sizes L w s o)) o.few

  -- chunks written as words are written as the rules' chunks
  pub as_chunks : (xs : List Stored) (cs : List Chunk) → length cs ≤ L → map (from_chunk w) cs ≡ xs
      → write_log L xs (words s) ≡ log_enc L w cs (words s)
  as_chunks xs cs h e = rw (← e) (sym (log_enc_is L w cs (words s) h))

  -- ---- a chunk more
  map_more : (cs : List Chunk) (c : Chunk) → map (from_chunk w) (append cs c) ≡ map (from_chunk w) cs ++ from_chunk w c ∷ []
  map_more [] c = refl
  map_more (x ∷ cs) c = ap (λ (l : List Stored). from_chunk w x ∷ l) (map_more cs c)

  -- its row is entered, and its bytes stand in its cell
  pub append_leaves : (n p k : ℕ) (saved : Bool) (v : ℕ) (s1 : List ℕ) → v ≡ cond saved 1 0 → get_or (words s) 0 0 < L → n ≡ get_or (words s) 0 0
      → KeyBound L n (words s) k p → words s1 ≡ entered L n p k v (words s) → words s1 ≡ with_next L w k saved (words s)
  append_leaves n p k saved v s1 ev room en pl e1 =
      let xs : List Stored = read_log L w (words s) in
      let cs : List Chunk = log_dec L w (words s) in
      let e : length xs ≡ n = count_is L w s o ∙ sym en in
      let cell : List ℕ = cell_in L w (get_or (words s) 0 0) (words s) in
      let inside = fits_in w room in
      let lc : length cell ≡ w = run_length (1 + 3 * L + get_or (words s) 0 0 * w) w (words s) (omega (arith, sizes L w s o)) in
      let there : cell ≡ take w (drop (length xs * w) (drop (1 + 3 * L) (words s))) =
      rw (drop-drop (length xs * w) (1 + 3 * L) (words s), count_is L w s o) in
      let pl2 : KeyBound L (length xs) (write_log L xs (words s)) k p = rw (same L w s o, e) pl in
      let g = pushed L w xs (words s) (sizes L w s o) (fits_read L w (words s) (sizes L w s o) o.few) (rw (count_is L w s o) room)
      (stored k v cell) lc p pl2 there in
      e1 ∙ (rw (same L w s o, e) at g)
      ∙ as_chunks (xs ++ stored k v cell ∷ []) (append cs (new_chunk k saved (unwords cell)))
      (rw (length-append, dec_length L w (words s) (sizes L w s o)) (omega arith))
      (map_more cs (new_chunk k saved (unwords cell))
      ∙ rw (chunks_back, words_unwords (below_take w (below_drop (1 + 3 * L + get_or (words s) 0 0 * w) (words_below b))), fixed_same w cell lc, ev))

  -- its bytes d are copied into its cell first: t are the bytes q to q + z then
  module _ (n at : ℕ) (d t : List ℕ) (q z : ℕ) (room : get_or (words s) 0 0 < L) (en : n ≡ get_or (words s) 0 0) (ld : length d ≡ 8 * w) (et : t ≡ d)
      (ea : at ≡ n * w) (eq : q ≡ 8 * (1 + 3 * L + at)) (ez : z ≡ 8 * w) where
    abbrev copied : List ℕ
    copied = take q s ++ (t ++ drop z (drop q s))

    lw : length (words d) ≡ w
    lw = counted d w ld

    start : 1 + 3 * L + at ≡ 1 + 3 * L + get_or (words s) 0 0 * w
    start = rw (ea, en)

    copied_is : words copied ≡ paste (words s) (1 + 3 * L + at) (words d) w
    copied_is =
        let inside = fits_in w room in
        lent_run s t q z (1 + 3 * L + at) w (λ _. words d) eq ez (omega (arith, o.size, start)) (rw et ld) (ap words et)
        ∙ on_by (1 + 3 * L + at) w (λ _. words d) (λ _. take w (words d)) (words s) (sym (take_all w (words d) (omega (arith, lw))))
        ∙ sym (paste_run (words s) (1 + 3 * L + at) (words d) w)

    pub copied_fits : length copied ≡ length s → IsLog L w (words copied) (length copied) × (get_or (words copied) 0 0 < L)
    copied_fits l =
        let log = placed_log L w (words s) (length s) o (sizes L w s o) room (words d) (1 + 3 * L + at) start (omega (arith, lw)) in
        let count = placed_count L w (words s) (length s) o (sizes L w s o) room (words d) (1 + 3 * L + at) start (omega (arith, lw)) in
        rw (copied_is, l) (log, rw count room)

    pub copied_leaves : (k : ℕ) (saved : Bool) → Below 256 d
        → with_next L w k saved (words copied) ≡ log_enc L w (append (log_dec L w (words s)) (new_chunk k saved d)) (words s)
    copied_leaves k saved bd =
        ap (with_next L w k saved) copied_is
        ∙ placed L w (words s) (length s) o (sizes L w s o) room (words d) (1 + 3 * L + at) start (omega (arith, lw)) k saved
        ∙ ap (λ (x : List ℕ). log_enc L w (append (log_dec L w (words s)) (new_chunk k saved x)) (words s))
        (ap unwords (take_all w (words d) (omega (arith, lw))) ∙ unwords_words d w bd ld)

  -- ---- chunks that become saved
  put_back : (cs : List Chunk) (p : ℕ) → p < length cs
      → map (from_chunk w) (set cs p (save (λ _. true) (chunk_at cs p))) ≡ put_saved p 1 (map (from_chunk w) cs)
  unfolding put_saved ◌or◌
  put_back [] p h = absurd (not-suc-le-zero h)
  put_back (c ∷ cs) zero h = refl
  put_back (c ∷ cs) (suc p) h = ap (λ (l : List Stored). from_chunk w c ∷ l) (put_back cs p (le_of_suc-le-suc h))

  all_back : (cs : List Chunk) → map (from_chunk w) (save_all cs) ≡ map (with_saved 1) (map (from_chunk w) cs)
  unfolding save_all ◌or◌
  all_back [] = refl
  all_back (c ∷ cs) = ap (λ (l : List Stored). with_saved 1 (from_chunk w c) ∷ l) (all_back cs)

  apart : keys_apart (log_dec L w (words s)) ≡ true
  apart = dec_apart L w (words s) (sizes L w s o) o.few o.order

  pub save_leaves : (k p q : ℕ) → FoundAt (log_dec L w (words s)) k p → q ≡ 2 + 2 * p
      → set (words s) q 1 ≡ log_enc L w (save_key (log_dec L w (words s)) k) (words s)
  save_leaves k p q f e =
      let cs : List Chunk = log_dec L w (words s) in
      let h : p < length (read_log L w (words s)) = rw (count_is L w s o, ← dec_length L w (words s) (sizes L w s o)) f.in_use in
      (rw (same L w s o) at (set_saved L w (read_log L w (words s)) (words s) (sizes L w s o) (fits_read L w (words s) (sizes L w s o) o.few) p 1 q h e))
      ∙ as_chunks (put_saved p 1 (read_log L w (words s))) (set cs p (save (λ _. true) (chunk_at cs p)))
      (rw length-set dec_few) (put_back cs p f.in_use ∙ ap (put_saved p 1) chunks_back)
      ∙ ap (λ (l : List Chunk). log_enc L w l (words s)) (sym (found_save k cs p apart f.in_use f.same))

  pub save_none : (k : ℕ) → held (log_dec L w (words s)) k ≡ false → words s ≡ log_enc L w (save_key (log_dec L w (words s)) k) (words s)
  save_none k n = sym (ap (λ (l : List Chunk). log_enc L w l (words s)) (none_to_save (log_dec L w (words s)) k n) ∙ clean)

  pub save_all_leaves : (i : ℕ) → i ≡ get_or (words s) 0 0
      → write_log L (tag (λ _. 1) i (read_log L w (words s))) (words s) ≡ log_enc L w (save_all (log_dec L w (words s))) (words s)
  unfolding save_all
  save_all_leaves i e =
      let cs : List Chunk = log_dec L w (words s) in
      rw (e, ← count_is L w s o, tag_all 1 (read_log L w (words s)))
      (as_chunks (map (with_saved 1) (read_log L w (words s))) (save_all cs) (rw (length_save_all cs) dec_few) (all_back cs
      ∙ ap (map (with_saved 1)) chunks_back))
    where
      length_save_all : (cs : List Chunk) → length (save_all cs) ≡ length cs
      length_save_all cs = length-map cs (save (λ _. true))

  -- ---- is it there, is it saved
  pub holds_saved : (k p : ℕ) → FoundAt (log_dec L w (words s)) k p → eqb (row_saved (words s) p) 1 ≡ saved_in (log_dec L w (words s)) k
  holds_saved k p f =
      let h : p < get_or (words s) 0 0 = rw (dec_length L w (words s) (sizes L w s o)) at f.in_use in
      sym (found_saved k (log_dec L w (words s)) p apart f.in_use f.same
      ∙ ap (λ (c : Chunk). c.saved) (dec_at L w s o p (rw (count_is L w s o) h))
      ∙ ap (λ (v : ℕ). eqb v 1) (read_saved L w (words s) (sizes L w s o) o.few p h))
