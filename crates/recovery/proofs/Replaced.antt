-- A bucket's copy in memory at one place, copied over those at another, and a bucket's record written: what they leave of the store.
use mathlib.Core.Path.{◌≡◌, refl, sym, ap, ◌∙◌}
use mathlib.Core.List.{List}
use Prim.Native.Nat.{ℕ, ◌≤◌, ◌<◌}
use native.Mathlib.Nat.{mul-le-mul_right}
use native.Mathlib.Omega.{arith}
use lib.ListN.{length, get_or}
use Rattle.lists.specs.Runs.{run, on_run}
use Rattle.lists.specs.Columns.{upd}
use Rattle.lists.proofs.Runs.{fits_in, run_length, on_before, on_after}
use Rattle.lists.proofs.Tests.{by_lt}
use Rattle.lists.proofs.Columns.{upd_same, upd_other}
use Rattle.words.specs.Words.{words}
use Rattle.words.proofs.Laws.{length_words}
use Rattle.rules.specs.declared.settings.Settings.{Settings}
use Rattle.rules.specs.Limits.{buckets}
use Rattle.rules.specs.Entries.{Entry}
use Rattle.rules.specs.State.{State, Bucket, Bricks, set_bricks, set_bucket, with_copies}
use Rattle.layout.specs.Contents.{Agreed}
use Rattle.layout.specs.Layout.{copy_codec, agreed_codec, copy_words, copies_words, place_words, store_words, agreed_words, agreed_at}
use Rattle.layout.proofs.Codecs.{copy_law}
use Rattle.layout.specs.Store.{agreed_in, decode, render}
use Rattle.layout.proofs.Foci.{agreed_focus}
use Rattle.entries.specs.Entries.{copied_entries}
use Rattle.lent.specs.Stores.{StoreOf}
use Rattle.lent.proofs.Effects.{ids_apart, assigned, copied}
use Rattle.recovery.specs.Copies.{memory_word, disk_word, replaced_words, Replaces}
use Rattle.recovery.proofs.OneBucket.{same_bucket, record_alone, memory_at, disk_at, see_memory, see_disk, memory_alone, disk_alone, memory_self}
use Rattle.recovery.proofs.OneBucket.{disk_self}
use Rattle.recovery.proofs.Tables.{table_count, memory_few}

-- the copy on disk at place q lies outside the copy in memory at place p, so that is as it was once the other is written
pub source_still : (c : Settings) (g p q : ℕ) (ws : List ℕ) → length ws ≡ store_words c → g < buckets c → p < c.places → q < c.places
    → run (memory_word c g p) (copy_words c) (copied_entries c.entries (memory_word c g p) (disk_word c g q) ws)
    ≡ run (memory_word c g p) (copy_words c) ws
source_still c g p q ws h hg hp hq =
    let f : List ℕ → List ℕ = (copy_codec c).enc ((copy_codec c).dec (run (memory_word c g p) (copy_words c) ws)) in
    let one = fits_in (copies_words c) hg in
    let two = fits_in (place_words c) hq in
    let three = fits_in (place_words c) hp in
    by_lt q p
    (λ _ l. let four = fits_in (place_words c) l in
    on_after (disk_word c g q) (copy_words c) f (memory_word c g p) (copy_words c) ws (omega arith)
    ((copy_law c).keeps ((copy_codec c).dec (run (memory_word c g p) (copy_words c) ws)) (run (disk_word c g q) (copy_words c) ws)
    (run_length (disk_word c g q) (copy_words c) ws (omega arith))) (omega arith))
    (λ _ l. let four = mul-le-mul_right (place_words c) l in
    on_before (disk_word c g q) (copy_words c) f (memory_word c g p) (copy_words c) ws (omega arith) (omega arith))

pub few_still : (c : Settings) (g p q : ℕ) (bs : List ℕ) → Replaces c g p q (words bs) (length bs) → (w1 : List ℕ)
    → w1 ≡ copied_entries c.entries (memory_word c g p) (disk_word c g q) (words bs) → get_or w1 (memory_word c g p) 0 ≤ c.entries
few_still c g p q bs r w1 e =
    let at : ℕ = memory_word c g p in
    let same : run at (copy_words c) w1 ≡ run at (copy_words c) (words bs) =
    ap (run at (copy_words c)) e ∙ source_still c g p q (words bs) (length_words bs ∙ omega (arith, r.size)) r.bucket r.from_in r.to_in in
    omega (
      arith,
      r.few,
      table_count at (copy_words c) w1 (omega arith),
      table_count at (copy_words c) (words bs) (omega arith),
      ap (λ (w : List ℕ). get_or w 0 0) same,
    )

module _ (c : Settings) (bs : List ℕ) (v : StoreOf c bs) (g : ℕ) (hg : g < buckets c) where
  abbrev s : State
  s = decode (words bs)

  abbrev old : Bucket
  old = s.bucket g

  pub begin : words bs ≡ render (set_bucket s g old) (words bs)
  begin = sym v.sound.still ∙ ap (λ (t : State). render t (words bs)) (sym (same_bucket s g))

  -- ---- the copies: bucket k has those at both places as they were
  module _ (k : Bucket) (p q : ℕ) (hp : p < c.places) (hq : q < c.places) (op : 0 < s.ids p) (oq : 0 < s.ids q)
      (mp : k.memory (s.ids p) ≡ old.memory (s.ids p)) (mq : k.memory (s.ids q) ≡ old.memory (s.ids q))
      (dq : k.disk (s.ids q) ≡ old.disk (s.ids q)) where
    abbrev memory : ℕ → List Entry
    memory = upd k.memory (s.ids q) (old.memory (s.ids p))

    abbrev disk : ℕ → List Entry
    disk = upd k.disk (s.ids q) (old.memory (s.ids p))

    others : (f : ℕ → List Entry) (i : ℕ) → (i ≡ s.ids q → ⊥) → f i ≡ upd f (s.ids q) (old.memory (s.ids p)) i
    others f i n = sym (upd_other f (s.ids q) i (old.memory (s.ids p)) n)

    there : (f : ℕ → List Entry) → upd f (s.ids q) (old.memory (s.ids p)) (s.ids q) ≡ old.memory (s.ids p)
    there f = upd_same f (s.ids q) (old.memory (s.ids p))

    pub source_few : get_or (render (set_bucket s g k) (words bs)) (memory_word c g p) 0 ≤ c.entries
    source_few = memory_few c bs v (set_bucket s g k) refl refl p hp op g hg (see_memory c p hp g hg s k ∙ mp)

    abbrev half : Bucket
    half = with_copies k k.memory disk

    first : copied_entries c.entries (memory_word c g p) (disk_word c g q) (render (set_bucket s g k) (words bs)) ≡ render (set_bucket s g half) (words bs)
    first =
        copied c bs v (disk_at c q hq g hg) (disk_self c q hq g hg s oq) (set_bucket s g k) (set_bucket s g half) refl refl (see_disk c q hq g hg s k ∙ dq)
        (disk_alone c q hq g hg s k half (ids_apart c bs v) oq refl (λ i. refl) (others k.disk)) (memory_at c p hp g hg) (memory_self c p hp g hg s op)
        (memory_self c p hp g hg (set_bucket s g k) op) (see_memory c p hp g hg s k ∙ mp) (see_disk c q hq g hg s half ∙ there k.disk)

    pub replaced : replaced_words c g p q (render (set_bucket s g k) (words bs)) ≡ render (set_bucket s g (with_copies k memory disk)) (words bs)
    replaced =
        let both : Bucket = with_copies k memory disk in
        ap (copied_entries c.entries (memory_word c g p) (memory_word c g q)) first
        ∙ copied c bs v (memory_at c q hq g hg) (memory_self c q hq g hg s oq) (set_bucket s g half) (set_bucket s g both) refl refl
        (see_memory c q hq g hg s half ∙ mq) (memory_alone c q hq g hg s half both (ids_apart c bs v) oq refl (others k.memory) (λ i. refl))
        (memory_at c p hp g hg) (memory_self c p hp g hg s op) (memory_self c p hp g hg (set_bucket s g half) op)
        (see_memory c p hp g hg s half ∙ mp) (see_memory c q hq g hg s both ∙ there k.memory)

  -- ---- the record: bucket k has it as it was, bucket l has the new one and the same copies
  pub recorded : (b : Bricks) (k l : Bucket) → agreed_in k ≡ agreed_in old → ((i : ℕ) → k.memory i ≡ l.memory i) → ((i : ℕ) → k.disk i ≡ l.disk i)
      → (x : Agreed) → agreed_in l ≡ x
      → on_run (agreed_at g) agreed_words (agreed_codec.enc x) (render (set_bucket (set_bricks s b) g k) (words bs))
      ≡ render (set_bucket (set_bricks s b) g l) (words bs)
  recorded b k l e m d x r =
      assigned c bs v (agreed_focus c g hg) ((refl, refl), λ j z n. refl) (set_bucket (set_bricks s b) g k) (set_bucket (set_bricks s b) g l) refl refl
      (ap agreed_in (upd_same s.bucket g k) ∙ e) (record_alone (set_bricks s b) g k l c hg m d) x (ap agreed_in (upd_same s.bucket g l) ∙ r)
