-- The parts of a place that holds a brick: its append buffer, its copies and its log.
use mathlib.Core.Path.{◌≡◌, refl, sym, ap, subst, ◌∙◌}
use mathlib.Core.List.{List}
use mathlib.Core.Bool.{true}
use Prim.Native.Nat.{ℕ, ◌+◌, ◌*◌, ◌/◌, ◌≤◌, ◌<◌}
use native.Mathlib.Nat.{add-zero}
use native.Mathlib.Omega.{arith}
use lib.ListN.{length, get_or}
use Rattle.lists.specs.Runs.{run}
use Rattle.lists.proofs.Runs.{run_at}
use Rattle.words.specs.Words.{words}
use Rattle.words.proofs.Laws.{length_words}
use Rattle.rules.specs.declared.settings.Settings.{Settings}
use Rattle.rules.specs.Limits.{buckets, max_waiting}
use Rattle.rules.specs.Entries.{Entry, ascending}
use Rattle.rules.specs.Chunks.{Chunk}
use Rattle.chunk_log.specs.Log.{IsLog}
use Rattle.chunk_log.proofs.Check.{is_log}
use Rattle.chunk_log.proofs.Codec.{dec_length, good_of_clean}
use Rattle.codec.specs.Codec.{Clean}
use Rattle.codec.proofs.Focus.{Focus, ◌through◌, at_offset, part_length, clean_part}
use Rattle.layout.specs.Contents.{entry_row, Place}
use Rattle.layout.specs.Layout.{entries_codec, buffer_codec, copy_codec, log_codec, place_codec, copy_words, log_words}
use Rattle.layout.specs.Layout.{buffer_at, copies_at, log_at}
use Rattle.layout.specs.Store.{decode}
use Rattle.layout.proofs.Foci.{place_focus, buffer_of, copies_of, log_of, memory_in, disk_in}
use Rattle.entries.proofs.Tables.{few_of, is_table, sorted_table}
use Rattle.lent.specs.Stores.{StoreOf}
use Rattle.lent.specs.Places.{PlacePart, HoldsBrick}
use Rattle.lent.specs.Parts.{CopyPart, BufferPart, LogPart}
use Rattle.lent.proofs.Stores.{settings_are, facts}
use Rattle.lent.proofs.Effects.{clean_in}
use Rattle.lent.proofs.Places.{place_is, id_is, part_words, seen}

-- ---- where a copy lies in a place
abbrev pub memory_of : (c : Settings) (g : ℕ) → g < buckets c → Focus (place_codec c) (copy_codec c)
memory_of c g l = at_offset (copies_at c g) (copies_of c g l through memory_in c) (omega arith)

abbrev pub disk_of : (c : Settings) (g : ℕ) → g < buckets c → Focus (place_codec c) (copy_codec c)
disk_of c g l = at_offset (copies_at c g + copy_words c) (copies_of c g l through disk_in c) refl

-- ---- entries by ascending blocks, in bytes
pub copy_part : (most : ℕ) (l : List Entry) (bs : List ℕ) → length bs ≡ 8 * (entries_codec most).size → (entries_codec most).dec (words bs) ≡ l
    → length l ≤ most → ascending 0 l ≡ true → CopyPart most l bs
copy_part most l bs h e few y = record { sorted = sorted_table most l few y (words bs) (length bs) (length_words bs ∙ omega arith) h e; same = e }

module _ (c : Settings) (bs part : List ℕ) (v : StoreOf c bs) (p : ℕ) (l : p < c.places) (h : PlacePart c p bs part)
    (o : 0 < (decode (words bs)).ids p) where
  abbrev id : ℕ
  id = (decode (words bs)).ids p

  -- ---- the append buffer
  pub buffer_part : (r : List ℕ) → length r ≡ 8 * buffer_codec.size → words r ≡ run buffer_at buffer_codec.size (words part)
      → BufferPart ((decode (words bs)).bricks.buffer id) r
  buffer_part r n e =
      let same : (decode (words bs)).bricks.buffer id ≡ buffer_codec.dec (words r) =
      seen c bs part v p l h (buffer_of c) ((refl, o), (refl, refl)) ∙ ap buffer_codec.dec (sym e) in
      record {
        table = is_table entry_row max_waiting ((decode (words bs)).bricks.buffer id) ((facts c bs v).buffers id).room (words r) (sym same) (length r) n;
        same = sym same;
      }

  -- ---- the copies of a bucket
  module _ (g : ℕ) (m : g < buckets c) where
    inside : g < buckets (decode (words bs)).settings
    inside = subst (λ (x : Settings). g < buckets x) (sym (settings_are c bs v)) m

    most : (decode (words bs)).settings.entries ≡ c.entries
    most = ap (λ (x : Settings). x.entries) (settings_are c bs v)

    memory_seen : ((decode (words bs)).bucket g).memory id ≡ (copy_codec c).dec (run (copies_at c g) (copy_words c) (words part))
    memory_seen = seen c bs part v p l h (memory_of c g m) (((refl, o), (((refl, refl), refl), λ j z q. refl)), refl)

    disk_seen : ((decode (words bs)).bucket g).disk id ≡ (copy_codec c).dec (run (copies_at c g + copy_words c) (copy_words c) (words part))
    disk_seen = seen c bs part v p l h (disk_of c g m) (((refl, o), (((refl, refl), refl), λ j z q. refl)), refl)

    memory_room : length (((decode (words bs)).bucket g).memory id) ≤ c.entries
    memory_room = omega (arith, (((facts c bs v).buckets_ok g inside).memory id).room, most)

    disk_room : length (((decode (words bs)).bucket g).disk id) ≤ c.entries
    disk_room = omega (arith, (((facts c bs v).buckets_ok g inside).disk id).room, most)

    pub memory_part : (r : List ℕ) → length r ≡ 8 * copy_words c → words r ≡ run (copies_at c g) (copy_words c) (words part)
        → CopyPart c.entries (((decode (words bs)).bucket g).memory id) r
    memory_part r n e =
        copy_part c.entries (((decode (words bs)).bucket g).memory id) r n (sym (memory_seen ∙ ap (copy_codec c).dec (sym e))) memory_room
        (((facts c bs v).buckets_ok g inside).memory id).sorted

    pub disk_part : (r : List ℕ) → length r ≡ 8 * copy_words c → words r ≡ run (copies_at c g + copy_words c) (copy_words c) (words part)
        → CopyPart c.entries (((decode (words bs)).bucket g).disk id) r
    disk_part r n e =
        copy_part c.entries (((decode (words bs)).bucket g).disk id) r n (sym (disk_seen ∙ ap (copy_codec c).dec (sym e))) disk_room
        (((facts c bs v).buckets_ok g inside).disk id).sorted

    -- their counts, in the words of the place
    count_few : (at : ℕ) (k : List Entry) → length k ≤ c.entries → k ≡ (copy_codec c).dec (run at (copy_words c) (words part)) → get_or (words part) at 0 ≤ c.entries
    count_few at k few e =
        let first : get_or (run at (copy_words c) (words part)) 0 0 ≡ get_or (words part) at 0 =
        run_at at (copy_words c) 0 (words part) (omega arith) ∙ ap (λ (i : ℕ). get_or (words part) i 0) (add-zero at) in
        rw first at (few_of entry_row c.entries k few (run at (copy_words c) (words part)) (sym e))

    memory_few : get_or (words part) (copies_at c g) 0 ≤ c.entries
    memory_few = count_few (copies_at c g) (((decode (words bs)).bucket g).memory id) memory_room memory_seen

    disk_few : get_or (words part) (copies_at c g + copy_words c) 0 ≤ c.entries
    disk_few = count_few (copies_at c g + copy_words c) (((decode (words bs)).bucket g).disk id) disk_room disk_seen

  -- ---- the log
  pub place_clean : Clean (place_codec c) (words part)
  place_clean = rw h.same (clean_in c bs v (place_focus c p l) ((((refl, refl), refl), refl), λ j z q. refl))

  abbrev log_run : List ℕ
  log_run = run (log_at c) (log_words c) (words part)

  log_seen : (decode (words bs)).bricks.log id ≡ (log_codec c).dec log_run
  log_seen = seen c bs part v p l h (log_of c) ((refl, o), ((refl, refl), refl))

  log_is : IsLog c.chunks (c.size / 8) log_run (8 * log_words c)
  log_is =
      let long : length log_run ≡ log_words c = part_length (log_of c) (words part) (part_words c bs part v p l h) in
      let clean : Clean (log_codec c) log_run =
      clean_part (log_of c) (words part) (part_words c bs part v p l h)
      (subst (λ (x : Place). (log_of c).Else x x) (place_is c bs part v p l h) ((refl, o), ((refl, refl), refl))) place_clean in
      let chunks : (decode (words bs)).settings.chunks ≡ c.chunks = ap (λ (x : Settings). x.chunks) (settings_are c bs v) in
      let room : length ((log_codec c).dec log_run) ≤ c.chunks =
      subst (λ (k : List Chunk). length k ≤ c.chunks) log_seen (omega (arith, (facts c bs v).log_room id, chunks)) in
      let few : get_or log_run 0 0 ≤ c.chunks = rw (dec_length c.chunks (c.size / 8) log_run long) at room in
      is_log c.chunks (c.size / 8) log_run (8 * log_words c) refl
      (good_of_clean c.chunks (c.size / 8) log_run long few clean (rw log_seen at ((facts c bs v).logs id).apart))

  pub log_part : (r : List ℕ) → length r ≡ 8 * log_words c → words r ≡ log_run → LogPart c ((decode (words bs)).bricks.log id) r
  log_part r n e = record { log = rw (n, e) log_is; same = sym (log_seen ∙ ap (log_codec c).dec (sym e)) }

  -- ---- the whole place
  pub holds_brick : HoldsBrick c (words part) (length part)
  holds_brick = record {
    limits = v.limits;
    size = h.size;
    filled = rw (id_is c bs part v p l h) at o;
    clean = place_clean;
    memory = memory_few;
    disk = disk_few;
    log = log_is;
  }
