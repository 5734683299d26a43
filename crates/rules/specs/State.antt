-- What a store holds. Bricks are columns by id: under an id that no place has, everything is blank. Buckets and proxies are columns by number.
use Rattle.std.specs.Prelude.{List, [], Bool, false, ℕ}
use Rattle.lists.specs.Columns.{upd}
use Rattle.rules.specs.declared.settings.Settings.{Settings}
use Rattle.rules.specs.Entries.{Entry}
use Rattle.rules.specs.Chunks.{Chunk}

-- a brick has a chunk log, an append buffer, the next sequence number and a saved ceiling
pub record Bricks : Type 0 where
  -- some place holds it
  pub present : ℕ → Bool
  pub up : ℕ → Bool
  pub member : ℕ → Bool
  -- the present view began with it
  pub began : ℕ → Bool
  pub next : ℕ → ℕ
  pub ceiling : ℕ → ℕ
  pub log : ℕ → List Chunk
  pub buffer : ℕ → List Entry

-- the agreed record has each bucket's pair and last ready pair; every brick has a copy in memory and on disk
pub record Bucket : Type 0 where
  pub primary : ℕ
  pub backup : ℕ
  pub last_primary : ℕ
  pub last_backup : ℕ
  pub ready : Bool
  pub fetched : Bool
  -- the order number sent last in this view, and the highest taken
  pub last_sent : ℕ
  pub taken : ℕ
  pub memory : ℕ → List Entry
  pub disk : ℕ → List Entry

-- a list of records: view, bucket, order number, block, key
pub record Relay : Type 0 where
  pub view : ℕ
  pub bucket : ℕ
  pub order : ℕ
  pub block : ℕ
  pub key : ℕ

pub record State : Type 0 where
  pub settings : Settings
  -- the id of the brick at a place, 0 where it is empty
  pub ids : ℕ → ℕ
  -- the highest id given
  pub given : ℕ
  pub view : ℕ
  -- how many bricks the view began with
  pub started : ℕ
  pub bricks : Bricks
  pub bucket : ℕ → Bucket
  -- oldest first
  pub bag : List Relay
  pub items : ℕ → List Entry
  -- the view that a proxy knows, 0 until it learns
  pub known : ℕ → ℕ

abbrev pub blank_relay : Relay
blank_relay = record { view = 0; bucket = 0; order = 0; block = 0; key = 0 }

abbrev pub blank_bucket : Bucket
blank_bucket = record {
  primary = 0;
  backup = 0;
  last_primary = 0;
  last_backup = 0;
  ready = false;
  fetched = false;
  last_sent = 0;
  taken = 0;
  memory = λ i. [];
  disk = λ i. [];
}

-- ---- a state with some of its parts changed
abbrev pub set_parts : State → Bricks → (ℕ → Bucket) → List Relay → (ℕ → List Entry) → (ℕ → ℕ) → State
set_parts s bricks bucket bag items known = record {
  settings = s.settings;
  ids = s.ids;
  given = s.given;
  view = s.view;
  started = s.started;
  bricks = bricks;
  bucket = bucket;
  bag = bag;
  items = items;
  known = known;
}

abbrev pub set_bricks : State → Bricks → State
set_bricks s v = set_parts s v s.bucket s.bag s.items s.known

abbrev pub set_buckets : State → (ℕ → Bucket) → State
set_buckets s v = set_parts s s.bricks v s.bag s.items s.known

abbrev pub set_bucket : State → ℕ → Bucket → State
set_bucket s g v = set_buckets s (upd s.bucket g v)

abbrev pub set_bag : State → List Relay → State
set_bag s v = set_parts s s.bricks s.bucket v s.items s.known

abbrev pub set_items : State → ℕ → List Entry → State
set_items s p v = set_parts s s.bricks s.bucket s.bag (upd s.items p v) s.known

abbrev pub set_known : State → ℕ → ℕ → State
set_known s p v = set_parts s s.bricks s.bucket s.bag s.items (upd s.known p v)

-- ---- bricks with the log or the buffer of one changed
abbrev pub set_lists : Bricks → (ℕ → List Chunk) → (ℕ → List Entry) → Bricks
set_lists b log buffer = record {
  present = b.present;
  up = b.up;
  member = b.member;
  began = b.began;
  next = b.next;
  ceiling = b.ceiling;
  log = log;
  buffer = buffer;
}

abbrev pub with_log : Bricks → ℕ → List Chunk → Bricks
with_log b i v = set_lists b (upd b.log i v) b.buffer

abbrev pub with_buffer : Bricks → ℕ → List Entry → Bricks
with_buffer b i v = set_lists b b.log (upd b.buffer i v)

-- ---- a bucket with its order numbers or copies changed
abbrev pub set_copies : Bucket → ℕ → ℕ → (ℕ → List Entry) → (ℕ → List Entry) → Bucket
set_copies k last_sent taken memory disk = record {
  primary = k.primary;
  backup = k.backup;
  last_primary = k.last_primary;
  last_backup = k.last_backup;
  ready = k.ready;
  fetched = k.fetched;
  last_sent = last_sent;
  taken = taken;
  memory = memory;
  disk = disk;
}

abbrev pub with_copies : Bucket → (ℕ → List Entry) → (ℕ → List Entry) → Bucket
with_copies k memory disk = set_copies k k.last_sent k.taken memory disk

abbrev pub with_last_sent : Bucket → ℕ → Bucket
with_last_sent k v = set_copies k v k.taken k.memory k.disk

abbrev pub with_taken : Bucket → ℕ → (ℕ → List Entry) → Bucket
with_taken k v memory = set_copies k k.last_sent v memory k.disk
