-- The log of a brick, in the words of the whole store: where it lies, and a change of it alone.
use mathlib.Core.Path.{◌≡◌, refl, sym, ap, subst, ◌∙◌}
use mathlib.Core.List.{List}
use Prim.Native.Nat.{ℕ, ◌+◌, ◌*◌, ◌/◌, ◌≤◌, ◌<◌}
use native.Mathlib.Omega.{arith}
use lib.ListN.{length, take, drop, length-drop}
use lib.Seq.{length-take-le}
use Rattle.lists.specs.Runs.{run, on_run}
use Rattle.lists.proofs.Runs.{fits_in, run_of_run, on_within}
use Rattle.lists.proofs.Columns.{upd_same, upd_other}
use Rattle.words.specs.Words.{words}
use Rattle.words.proofs.Laws.{words_part}
use Rattle.rules.specs.declared.settings.Settings.{Settings}
use Rattle.rules.specs.Chunks.{Chunk}
use Rattle.rules.specs.State.{State}
use Rattle.chunk_log.specs.Log.{IsLog}
use Rattle.layout.specs.Contents.{Brick}
use Rattle.layout.specs.Layout.{word_bytes, log_codec, settings_of, log_words, place_words, store_words, place_at, log_at}
use Rattle.layout.specs.Store.{brick_in, decode, render}
use Rattle.layout.proofs.Sound.{SoundWords}
use Rattle.layout.proofs.Foci.{log_of}
use Rattle.layout.proofs.Changes.{OneBrick, part_changed}
use Rattle.lent.specs.Stores.{StoreOf}
use Rattle.lent.specs.Places.{PlacePart, log_from, with_chunks}
use Rattle.lent.specs.Parts.{LogPart}
use Rattle.lent.proofs.Parts.{log_part}

pub log_inside : (c : Settings) (p : ℕ) → p < c.places → log_from c p + log_words c ≤ store_words c
log_inside c p l = let b = fits_in (place_words c) l in omega arith

abbrev pub log_bytes : Settings → ℕ → List ℕ → List ℕ
log_bytes c p bs = take (8 * log_words c) (drop (8 * log_from c p) bs)

module _ (c : Settings) (bs : List ℕ) (v : StoreOf c bs) (p : ℕ) (l : p < c.places) where
  bytes_length : (a n : ℕ) → a + n ≤ store_words c → length (take (8 * n) (drop (8 * a) bs)) ≡ 8 * n
  bytes_length a n h = length-take-le (8 * n) (drop (8 * a) bs) (rw length-drop (omega (arith, v.size)))

  pub log_run : words (log_bytes c p bs) ≡ run (log_from c p) (log_words c) (words bs)
  log_run = words_part bs (8 * log_from c p) (8 * log_words c) (log_from c p) (log_words c) refl refl (omega (arith, log_inside c p l, v.size))

  pub log_length : length (log_bytes c p bs) ≡ 8 * log_words c
  log_length = bytes_length (log_from c p) (log_words c) (log_inside c p l)

  place_bytes : PlacePart c p bs (take (8 * place_words c) (drop (8 * place_at c p) bs))
  place_bytes =
      let b = fits_in (place_words c) l in
      record {
        size = bytes_length (place_at c p) (place_words c) (omega arith);
        same = words_part bs (8 * place_at c p) (8 * place_words c) (place_at c p) (place_words c) refl refl (omega (arith, v.size));
      }

  pub log_lies : 0 < (decode (words bs)).ids p → LogPart c ((decode (words bs)).bricks.log ((decode (words bs)).ids p)) (log_bytes c p bs)
  log_lies o =
      let b = fits_in (place_words c) l in
      let n : length (words bs) ≡ store_words (settings_of (words bs)) = v.sound.size in
      let m : store_words (settings_of (words bs)) ≡ store_words c = ap store_words (sym v.same) in
      log_part c bs (take (8 * place_words c) (drop (8 * place_at c p) bs)) v p l place_bytes o (log_bytes c p bs) log_length
      (log_run ∙ sym (ap (run (log_at c) (log_words c)) place_bytes.same
      ∙ run_of_run (place_at c p) (place_words c) (log_at c) (log_words c) (words bs) (omega arith) (omega arith)))

  -- as a run of the store's words
  module _ (o : 0 < (decode (words bs)).ids p) where
    pub log_good : IsLog c.chunks (c.size / word_bytes) (run (log_from c p) (log_words c) (words bs)) (8 * log_words c)
    log_good = rw (log_run, log_length) at (log_lies o).log

    pub log_read : (log_codec c).dec (run (log_from c p) (log_words c) (words bs)) ≡ (decode (words bs)).bricks.log ((decode (words bs)).ids p)
    log_read = ap (log_codec c).dec (sym log_run) ∙ (log_lies o).same

-- ---- a change of the log alone
one_log : (s : State) (id : ℕ) (k : List Chunk) → OneBrick s (with_chunks s id k) id
one_log s id k = record {
  head = refl;
  agreed = refl;
  proxy = refl;
  bag = refl;
  ids = refl;
  others = λ i n. ap (λ (m : List Chunk). same_but i m) (sym (upd_other s.bricks.log id i k n));
}
  where
    same_but : ℕ → List Chunk → Brick
    same_but i m = record { present = s.bricks.present i; status = (brick_in s i).status; buffer = s.bricks.buffer i; copies = (brick_in s i).copies; log = m }

log_changed_by : (ws : List ℕ) → SoundWords ws → (p : ℕ) → p < (settings_of ws).places → 0 < (decode ws).ids p → (k : List Chunk)
    → render (with_chunks (decode ws) ((decode ws).ids p) k) ws
    ≡ on_run (log_from (settings_of ws) p) (log_words (settings_of ws)) ((log_codec (settings_of ws)).enc k) ws
log_changed_by ws sd p l o k =
    let c : Settings = settings_of ws in
    let s : State = decode ws in
    let t : State = with_chunks s (s.ids p) k in
    let b = fits_in (place_words c) l in
    let size = sd.size in
    part_changed ws sd t refl p l o (one_log s (s.ids p) k) (log_of c) ((refl, o), ((refl, refl), refl))
    ∙ ap (λ (m : List Chunk). on_run (place_at c p) (place_words c) (on_run (log_at c) (log_words c) ((log_codec c).enc m)) ws)
    (upd_same s.bricks.log (s.ids p) k)
    ∙ on_within (place_at c p) (place_words c) (log_at c) (log_words c) ((log_codec c).enc k) ws (omega arith) (omega arith)

pub log_changed : (c : Settings) (bs : List ℕ) → StoreOf c bs → (p : ℕ) → p < c.places → 0 < (decode (words bs)).ids p → (k : List Chunk)
    → render (with_chunks (decode (words bs)) ((decode (words bs)).ids p) k) (words bs)
    ≡ on_run (log_from c p) (log_words c) ((log_codec c).enc k) (words bs)
log_changed c bs v p l o k =
    subst (λ (x : Settings). p < x.places → render (with_chunks (decode (words bs)) ((decode (words bs)).ids p) k) (words bs)
    ≡ on_run (log_from x p) (log_words x) ((log_codec x).enc k) (words bs)) (sym v.same)
    (λ m. log_changed_by (words bs) v.sound p m o k) l
