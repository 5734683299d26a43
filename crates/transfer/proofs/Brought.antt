-- A chunk's bytes in the words of the store: where they lie, and what is left when they have come into the next cell of a log and the chunk is entered.
use mathlib.Core.Path.{◌≡◌, refl, sym, ap, subst, ◌∙◌}
use mathlib.Core.Bool.{Bool}
use mathlib.Core.List.{List, ◌++◌}
use Prim.Native.Nat.{ℕ, ◌+◌, ◌*◌, ◌-◌, ◌/◌, ◌≤◌, ◌<◌}
use native.Mathlib.Omega.{arith}
use lib.ListN.{length, take, drop, get_or}
use lib.Seq.{paste}
use Rattle.lists.specs.Runs.{run, on_run}
use Rattle.lists.proofs.Runs.{fits_in, run_length, run_of_run, paste_run, on_by, on_same, on_twice, on_within}
use Rattle.words.specs.Words.{words, unwords}
use Rattle.words.proofs.Laws.{lent_run, length_words}
use Rattle.rules.specs.declared.settings.Settings.{Settings}
use Rattle.rules.specs.Chunks.{Chunk, new_chunk, append, bytes_in}
use Rattle.chunk_log.specs.Log.{IsLog}
use Rattle.chunk_log.specs.Steps.{with_next}
use Rattle.chunk_log.specs.Answers.{FoundAt}
use Rattle.chunk_log.proofs.Steps.{found_row, cell_bytes, placed_length, placed_count, placed_log, placed}
use Rattle.chunk_log.proofs.Codec.{dec_length}
use Rattle.layout.specs.Layout.{word_bytes, log_codec, log_words, place_words, store_words, place_at, log_at}
use Rattle.layout.specs.Store.{decode, render}
use Rattle.layout.proofs.Lent.{lent}
use Rattle.lent.specs.Stores.{StoreOf}
use Rattle.lent.specs.Places.{SpanOf, log_from, with_chunks}
use Rattle.lent.proofs.Stores.{facts}
use Rattle.lent.proofs.Logs.{log_inside, log_bytes, log_run, log_lies, log_good, log_read, log_changed}
use Rattle.holders.proofs.Contents.{row_bytes}
use Rattle.transfer.specs.Brings.{log_at_place, cell_at, LogRoom}

-- ---- a log lies in the store
log_fits : (c : Settings) (bs : List ℕ) → StoreOf c bs → (p : ℕ) → p < c.places → log_from c p + log_words c ≤ length (words bs)
log_fits c bs v p l = omega (arith, log_inside c p l, v.sound.size ∙ ap store_words (sym v.same))

-- ---- a chunk that lies in a row of the log at a place: that is one of the rows, and its bytes are those of its cell
module _ (c : Settings) (bs : List ℕ) (v : StoreOf c bs) (p : ℕ) (l : p < c.places) (o : 0 < (decode (words bs)).ids p) (k row : ℕ)
    (found : FoundAt (log_at_place (decode (words bs)) p) k row) where
  found_here : FoundAt ((log_codec c).dec (words (log_bytes c p bs))) k row
  found_here = subst (λ (x : List Chunk). FoundAt x k row) (sym (log_lies c bs v p l o).same) found

  in_use : row < get_or (words (log_bytes c p bs)) 0 0
  in_use = found_row c.chunks (c.size / word_bytes) (log_bytes c p bs) (log_lies c bs v p l o).log k row found_here

  pub found_few : row < c.chunks
  found_few = omega (arith, in_use, (log_lies c bs v p l o).log.few)

  pub found_bytes : (at : ℕ) → at ≡ cell_at c p row
      → unwords (run at (c.size / word_bytes) (words bs)) ≡ bytes_in (log_at_place (decode (words bs)) p) k
  found_bytes at e =
      let width : ℕ = c.size / word_bytes in
      let fits = fits_in width found_few in
      let cell : ℕ = 1 + 3 * c.chunks + row * width in
      ap unwords (ap (λ (a : ℕ). run a width (words bs)) e
      ∙ sym (run_of_run (log_from c p) (log_words c) cell width (words bs) (log_fits c bs v p l) (omega arith)) ∙ ap (run cell width) (sym (log_run c bs v p l)))
      ∙ sym (cell_bytes c.chunks width (log_bytes c p bs) (log_lies c bs v p l o).log row in_use)
      ∙ row_bytes c (log_at_place (decode (words bs)) p) (log_bytes c p bs) (log_lies c bs v p l o) k row found_here ((facts c bs v).logs _).apart

-- ---- words d come to q, where the next cell of the log at place p begins
module _ (c : Settings) (bs : List ℕ) (v : StoreOf c bs) (p : ℕ) (l : p < c.places) (o : 0 < (decode (words bs)).ids p)
    (room : length (log_at_place (decode (words bs)) p) < c.chunks) (d : List ℕ) (q : ℕ)
    (eq : q ≡ cell_at c p (length (log_at_place (decode (words bs)) p))) (ld : c.size / word_bytes ≤ length d) where
  abbrev width : ℕ
  width = c.size / word_bytes

  abbrev log : List ℕ
  log = run (log_from c p) (log_words c) (words bs)

  abbrev at : ℕ
  at = 1 + 3 * c.chunks + get_or log 0 0 * width

  inside : log_from c p + log_words c ≤ length (words bs)
  inside = log_fits c bs v p l

  long : length log ≡ log_words c
  long = run_length (log_from c p) (log_words c) (words bs) inside

  count : length (log_at_place (decode (words bs)) p) ≡ get_or log 0 0
  count = sym (ap length (log_read c bs v p l o)) ∙ dec_length c.chunks width log long

  some_room : get_or log 0 0 < c.chunks
  some_room = rw (← count) room

  good : IsLog c.chunks width log (8 * log_words c)
  good = log_good c bs v p l o

  moved_length : length (paste log at d width) ≡ log_words c
  moved_length = placed_length c.chunks width log (8 * log_words c) good long some_room d at refl ld

  -- they change the log alone
  in_log : paste (words bs) q d width ≡ on_run (log_from c p) (log_words c) (λ x. paste x at d width) (words bs)
  in_log =
      let here : q ≡ log_from c p + at = eq ∙ rw count in
      let fits = fits_in width some_room in
      ap (λ (a : ℕ). paste (words bs) a d width) here ∙ paste_run (words bs) (log_from c p + at) d width
      ∙ sym (on_within (log_from c p) (log_words c) at width (λ _. take width d) (words bs) inside (omega arith))
      ∙ on_by (log_from c p) (log_words c) (on_run at width (λ _. take width d)) (λ x. paste x at d width) (words bs) (sym (paste_run log at d width))

  moved_log : run (log_from c p) (log_words c) (paste (words bs) q d width) ≡ paste log at d width
  moved_log =
      ap (run (log_from c p) (log_words c)) in_log
      ∙ on_same (log_from c p) (log_words c) (λ x. paste x at d width) (words bs) inside moved_length

  -- ---- the place's part is lent then
  module _ (vs : List ℕ) (lv : length vs ≡ length bs) (ev : words vs ≡ paste (words bs) q d width) (from to : ℕ) (span : SpanOf c p from to) where
    abbrev part : List ℕ
    part = take (to - from) (drop from vs)

    fits : 8 * (place_at c p + place_words c) ≤ length vs
    fits = omega (arith, lv, v.size, span.inside, span.start, span.size)

    wide : place_at c p + place_words c ≤ length (words vs)
    wide = rw length_words (omega (arith, fits))

    in_part : run (log_at c) (log_words c) (words part) ≡ paste log at d width
    in_part =
        ap (run (log_at c) (log_words c)) (lent vs from to (place_at c p) (place_words c) span.start span.size fits)
        ∙ run_of_run (place_at c p) (place_words c) (log_at c) (log_words c) (words vs) wide (omega arith)
        ∙ ap (run (log_from c p) (log_words c)) ev ∙ moved_log

    pub part_inside : to ≤ length vs
    part_inside = omega (arith, fits, span.start, span.size)

    part_length : length part ≡ 8 * place_words c
    part_length = run_length from (to - from) vs (omega (arith, part_inside, span.size)) ∙ omega (arith, span.size)

    pub moved_fits : LogRoom c (words part) (length part)
    moved_fits = record {
      place = record {
        limits = v.limits;
        size = part_length;
        log = rw in_part (placed_log c.chunks width log (8 * log_words c) good long some_room d at refl ld);
      };
      room = rw (in_part, placed_count c.chunks width log (8 * log_words c) good long some_room d at refl ld) some_room;
    }

    pub entered : (k : ℕ) (saved : Bool) (new : List ℕ) → length new ≡ length part
        → words new ≡ on_run (log_at c) (log_words c) (with_next c.chunks width k saved) (words part)
        → words (take from vs ++ (new ++ drop (to - from) (drop from vs)))
        ≡ render (with_chunks (decode (words bs)) ((decode (words bs)).ids p)
        (append (log_at_place (decode (words bs)) p) (new_chunk k saved (unwords (take width d))))) (words bs)
    entered k saved new ln en =
        let g : List ℕ → List ℕ = with_next c.chunks width k saved in
        let bytes : List ℕ = unwords (take width d) in
        let grown : List Chunk = append (log_at_place (decode (words bs)) p) (new_chunk k saved bytes) in
        lent_run vs new from (to - from) (place_at c p) (place_words c) (on_run (log_at c) (log_words c) g) span.start (omega (arith, span.size))
        (omega (arith, fits)) (ln ∙ part_length) en
        ∙ on_within (place_at c p) (place_words c) (log_at c) (log_words c) g (words vs) wide (omega arith)
        ∙ ap (on_run (log_from c p) (log_words c) g) (ev ∙ in_log)
        ∙ sym (on_twice (log_from c p) (log_words c) (λ x. paste x at d width) g (words bs) inside moved_length)
        ∙ on_by (log_from c p) (log_words c) (λ x. g (paste x at d width)) ((log_codec c).enc grown) (words bs)
        (placed c.chunks width log (8 * log_words c) good long some_room d at refl ld k saved
        ∙ ap (λ (x : List Chunk). (log_codec c).enc (append x (new_chunk k saved bytes)) log) (log_read c bs v p l o))
        ∙ sym (log_changed c bs v p l o grown)
