-- What the functions that mend a log ask for.
use Rattle.std.specs.Prelude.{◌≡◌, true, List, ℕ, ◌≤◌, ◌<◌, length, get_or, Option, Some, None}
use Rattle.lists.specs.Runs.{run, on_run}
use Rattle.words.specs.Words.{words}
use Rattle.rules.specs.declared.settings.Settings.{Settings}
use Rattle.rules.specs.Limits.{buckets}
use Rattle.rules.specs.Entries.{Entry}
use Rattle.rules.specs.Chunks.{Chunk}
use Rattle.rules.specs.Derived.{up_member}
use Rattle.rules.specs.Upkeep.{mend_key, mend_keys, mended}
use Rattle.codec.specs.Codec.{change}
use Rattle.layout.specs.Layout.{log_codec, copy_codec, copy_words, log_words, log_at}
use Rattle.layout.specs.Store.{decode}
use Rattle.lent.specs.Stores.{StoreOf}
use Rattle.lent.specs.Places.{log_from}
use Rattle.named.specs.Tables.{AtCopies, AllNamed}

-- the words of a place with its log changed
abbrev pub change_log : Settings → (List Chunk → List Chunk) → List ℕ → List ℕ
change_log c f part = on_run (log_at c) (log_words c) (change (log_codec c) f) part

-- the words of a store with another log at a place
abbrev pub with_log_at : Settings → ℕ → List Chunk → List ℕ → List ℕ
with_log_at c place log ws = on_run (log_from c place) (log_words c) ((log_codec c).enc log) ws

-- the log of the brick at a place
abbrev pub log_of : ℕ → List ℕ → List Chunk
log_of place ws = (decode ws).bricks.log ((decode ws).ids place)

-- a place that holds an up member
pub record UpAt (c : Settings) (bs : List ℕ) (place : ℕ) : Type 0 where
  pub store : StoreOf c bs
  pub inside : place < c.places
  pub up : up_member (decode (words bs)) ((decode (words bs)).ids place) ≡ true

-- one key mended there, and the keys of some entries
abbrev pub key_mended : ℕ → ℕ → List ℕ → List Chunk
key_mended place key ws = mend_key (decode ws) ((decode ws).ids place) (log_of place ws) key

abbrev pub table_of : Settings → ℕ → List ℕ → List Entry
table_of c from ws = (copy_codec c).dec (run from (copy_words c) ws)

abbrev pub table_mended : Settings → ℕ → ℕ → List ℕ → List Chunk
table_mended c place from ws = mend_keys (decode ws) ((decode ws).ids place) (log_of place ws) (table_of c from ws)

-- a key is mended, and there is room for the chunk if it is added
pub record Mends (c : Settings) (bs : List ℕ) (place key : ℕ) : Type 0 where
  pub there : UpAt c bs place
  pub room : length (key_mended place key (words bs)) ≤ c.chunks

-- the keys of a table are mended: it lies among the copies of a bucket, and there is room for all chunks that are added
pub record MendsTable (c : Settings) (bs : List ℕ) (place from : ℕ) : Type 0 where
  pub there : UpAt c bs place
  pub bucket : ℕ
  pub in_bucket : bucket < buckets c
  pub lies : AtCopies c bucket from
  pub few : get_or (words bs) from 0 ≤ c.entries
  pub room : length (table_mended c place from (words bs)) ≤ c.chunks

-- what the table at a word leaves; the same words where there is no table
abbrev pub Mended : Settings → ℕ → Option ℕ → List ℕ → List ℕ → Type 0
Mended c place (Some from) ws vs = vs ≡ with_log_at c place (table_mended c place from ws) ws
Mended c place (None) ws vs = vs ≡ ws

-- all named keys are mended: where they lie, and that there is room
pub record MendsAll (c : Settings) (bs : List ℕ) (place : ℕ) (tables : List (Option ℕ)) : Type 0 where
  pub there : UpAt c bs place
  pub known : AllNamed c bs tables
  pub room : length (mended (decode (words bs)) ((decode (words bs)).ids place)) ≤ c.chunks
