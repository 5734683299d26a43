-- A bucket's entries, moved from a place's append buffer into its copy in memory: what that leaves of the store.
use mathlib.Core.Path.{◌≡◌, refl, sym, ap, subst, ◌∙◌}
use mathlib.Core.List.{List}
use mathlib.Core.Bool.{not}
use Prim.Native.Nat.{ℕ, ◌+◌, ◌≤◌, ◌<◌}
use native.Mathlib.Omega.{arith}
use lib.ListN.{length, get_or}
use Rattle.lists.specs.Tests.{only}
use Rattle.lists.specs.Runs.{run, on_run}
use Rattle.lists.specs.Columns.{upd}
use Rattle.lists.proofs.Runs.{on_at_before}
use Rattle.lists.proofs.Columns.{upd_same, upd_other}
use Rattle.words.specs.Words.{words}
use Rattle.rules.specs.declared.settings.Settings.{Settings}
use Rattle.rules.specs.Limits.{buckets, max_waiting}
use Rattle.rules.specs.Entries.{Entry, is_of_bucket, drain}
use Rattle.rules.specs.State.{State, Bucket, set_bricks, set_bucket, with_buffer, with_copies}
use Rattle.codec.specs.Codec.{change}
use Rattle.layout.specs.Layout.{entries_codec, buffer_codec, place_at, buffer_at}
use Rattle.layout.specs.Store.{brick_in, decode, render}
use Rattle.layout.proofs.Changes.{OneBrick, only_brick}
use Rattle.entries.specs.Entries.{entries_words}
use Rattle.buffers.specs.Steps.{drained_words}
use Rattle.lent.specs.Stores.{StoreOf}
use Rattle.lent.proofs.Effects.{ids_apart, changed}
use Rattle.recovery.specs.Copies.{memory_word, moved_words}
use Rattle.recovery.proofs.OneBucket.{memory_at, see_memory, memory_alone, memory_self}
use Rattle.recovery.proofs.Tables.{table_count, waiting_at, waiting_self, waiting_seen}

-- a buffer that lies before the copy has its count as it was
pub still_few : (count g buffer copy most : ℕ) (ws vs : List ℕ) → copy ≤ length ws → buffer < copy → get_or ws buffer 0 ≤ max_waiting
    → vs ≡ drained_words count g buffer max_waiting copy most ws → get_or (run buffer buffer_codec.size vs) 0 0 ≤ max_waiting
still_few count g buffer copy most ws vs h l few e =
    let mine = only (is_of_bucket count g) ((entries_codec max_waiting).dec (run buffer (entries_words max_waiting) ws)) in
    let same : get_or vs buffer 0 ≡ get_or ws buffer 0 =
    ap (λ (w : List ℕ). get_or w buffer 0) e ∙ on_at_before copy (entries_words most) (change (entries_codec most) (λ l. drain most l mine)) ws buffer h l in
    subst (λ (n : ℕ). n ≤ max_waiting) (sym (table_count buffer buffer_codec.size vs (omega arith) ∙ same)) few

-- bucket k has the copy as it was
module _ (c : Settings) (bs : List ℕ) (v : StoreOf c bs) (g : ℕ) (hg : g < buckets c) (k : Bucket) (p : ℕ) (hp : p < c.places)
    (o : 0 < (decode (words bs)).ids p)
    (m : k.memory ((decode (words bs)).ids p) ≡ ((decode (words bs)).bucket g).memory ((decode (words bs)).ids p)) where
  abbrev s : State
  s = decode (words bs)

  abbrev id : ℕ
  id = s.ids p

  abbrev waits : List Entry
  waits = s.bricks.buffer id

  abbrev drained : List Entry
  drained = drain c.entries ((s.bucket g).memory id) (only (is_of_bucket (buckets c) g) waits)

  abbrev rest : List Entry
  rest = only (λ e. not (is_of_bucket (buckets c) g e)) waits

  abbrev next : Bucket
  next = with_copies k (upd k.memory id drained) k.disk

  abbrev three : State
  three = set_bucket s g k

  abbrev four : State
  four = set_bucket s g next

  abbrev five : State
  five = set_bucket (set_bricks s (with_buffer s.bricks id rest)) g next

  copy_drained : drained_words (buckets c) g (place_at c p + buffer_at) max_waiting (memory_word c g p) c.entries (render three (words bs))
      ≡ render four (words bs)
  copy_drained =
      let mine : List Entry → List Entry = only (is_of_bucket (buckets c) g) in
      let seen : List Entry = mine (buffer_codec.dec (run (place_at c p + buffer_at) buffer_codec.size (render three (words bs)))) in
      changed c bs v (memory_at c p hp g hg) (memory_self c p hp g hg s o) three four refl refl (see_memory c p hp g hg s k ∙ m)
      (memory_alone c p hp g hg s k next (ids_apart c bs v) o refl (λ i n. sym (upd_other k.memory id i drained n)) (λ i. refl))
      (λ l. drain c.entries l seen)
      (see_memory c p hp g hg s next ∙ upd_same k.memory id drained
      ∙ sym (ap (λ (l : List Entry). drain c.entries ((s.bucket g).memory id) (mine l)) (waiting_seen c bs v three refl refl p hp o refl)))

  buffer_alone : OneBrick four five id
  buffer_alone = record {
    head = refl;
    agreed = refl;
    proxy = refl;
    bag = refl;
    ids = refl;
    others = λ i n. ap (λ (l : List Entry). record {
      present = s.bricks.present i;
      status = (brick_in s i).status;
      buffer = l;
      copies = (brick_in four i).copies;
      log = s.bricks.log i;
    }) (sym (upd_other s.bricks.buffer id i rest n));
  }

  pub moved : moved_words c g p (render three (words bs)) ≡ render five (words bs)
  moved =
      let f : List Entry → List Entry = only (λ e. not (is_of_bucket (buckets c) g e)) in
      ap (on_run (place_at c p + buffer_at) buffer_codec.size (change buffer_codec f)) copy_drained
      ∙ changed c bs v (waiting_at c p hp) (waiting_self c p hp s o) four five refl refl refl
      ((only_brick c four five p hp (ids_apart c bs v) o buffer_alone).0, ((refl, o), (refl, refl))) f (upd_same s.bricks.buffer id rest)
