-- The facts of a sound store in groups that events change as one, and how each is kept where one brick, one bucket, one proxy or the bag changes.
use mathlib.Core.Path.{◌≡◌, refl, ap, ◌∙◌}
use mathlib.Core.List.{List, [], Memᴰ}
use mathlib.Core.Bool.{Bool, true, false}
use Prim.Native.Nat.{ℕ, ◌≤◌, ◌<◌}
use native.Mathlib.Omega.{arith}
use lib.ListN.{length}
use Rattle.lists.specs.Columns.{upd}
use Rattle.lists.proofs.Tests.{and_l}
use Rattle.lists.proofs.Columns.{upd_other, upd_all, upd_up}
use Rattle.rules.specs.declared.settings.Settings.{Settings}
use Rattle.rules.specs.Limits.{in_limits, proxies, buckets, max_relays, max_items, max_view_or_order}
use Rattle.rules.specs.Numbers.{proxy_of, bucket_of}
use Rattle.rules.specs.Entries.{Entry}
use Rattle.rules.specs.Chunks.{Chunk}
use Rattle.rules.specs.State.{Bucket, Relay, State, blank_bucket, set_parts, set_lists, set_bricks, with_log, with_copies}
use Rattle.rules.specs.Derived.{up_member}
use Rattle.rules.proofs.Sound.{KeyOk, TableOk, BufferOk, LogOk, RelayOk, BricksOk, NumbersOk, PairOk, BucketOk, KeyOf, Sound, key_stays}
use Rattle.history.proofs.Sound.Lists.{table_map, buffer_map, log_map, relay_map}

-- ---- keys: where a brick's next number grows, they are still below it
pub next_grows : {given : ℕ} {present : ℕ → Bool} {next : ℕ → ℕ} {k : ℕ} (x m : ℕ) → next x ≤ m → KeyOk given present next k → KeyOk given present (upd next x m) k
next_grows {next = next} {k = k} x m u = key_stays k (omega arith) (λ i _ y. (y, upd_all (λ i v. next i ≤ v) next x m (λ i. omega arith) u i))

-- ---- bricks: the same ones at the same places, with other flags
pub new_flags : {places given : ℕ} {ids : ℕ → ℕ} {present up member began up' member' began' : ℕ → Bool} → BricksOk places ids given present up member began
    → ((i : ℕ) → up' i ≡ true → present i ≡ true) → ((i : ℕ) → member' i ≡ true → up' i ≡ true) → ((i : ℕ) → began' i ≡ true → present i ≡ true)
    → BricksOk places ids given present up' member' began'
new_flags b up_present member_up began_here = record {
  few = b.few;
  beyond = b.beyond;
  born = b.born;
  apart = b.apart;
  stands = b.stands;
  somewhere = b.somewhere;
  first = b.first;
  up_present = up_present;
  member_up = member_up;
  began_here = began_here;
}

-- ---- logs
pub record LogsOk (K : ℕ → Type 0) (size chunks : ℕ) (present : ℕ → Bool) (log : ℕ → List Chunk) : Type 0 where
  pub each : (i : ℕ) → LogOk K size (log i)
  pub room : (i : ℕ) → length (log i) ≤ chunks
  pub blank : (i : ℕ) → present i ≡ false → log i ≡ []

module _ {K : ℕ → Type 0} {size chunks : ℕ} {present : ℕ → Bool} {log : ℕ → List Chunk} (v : LogsOk K size chunks present log) where
  pub logs_map : {L : ℕ → Type 0} → ((k : ℕ) → K k → L k) → LogsOk L size chunks present log
  logs_map f = record { each = λ i. log_map f (v.each i); room = v.room; blank = v.blank }

  pub one_log : {l : List Chunk} (x : ℕ) → present x ≡ true → LogOk K size l → length l ≤ chunks → LogsOk K size chunks present (upd log x l)
  one_log {l} x h o r = record {
    each = upd_all (λ _ m. LogOk K size m) log x l v.each o;
    room = upd_all (λ _ m. length m ≤ chunks) log x l v.room r;
    blank = upd_up present (λ _ m. m ≡ []) log x l h v.blank;
  }

-- ---- buffers
pub record BuffersOk (K : ℕ → Type 0) (up : ℕ → Bool) (buffer : ℕ → List Entry) : Type 0 where
  pub each : (i : ℕ) → BufferOk K (buffer i)
  pub down : (i : ℕ) → up i ≡ false → buffer i ≡ []

module _ {K : ℕ → Type 0} {up : ℕ → Bool} {buffer : ℕ → List Entry} (v : BuffersOk K up buffer) where
  pub buffers_map : {L : ℕ → Type 0} → ((k : ℕ) → K k → L k) → BuffersOk L up buffer
  buffers_map f = record { each = λ i. buffer_map f (v.each i); down = v.down }

  pub one_buffer : {l : List Entry} (x : ℕ) → up x ≡ true → BufferOk K l → BuffersOk K up (upd buffer x l)
  one_buffer {l} x y o = record {
    each = upd_all (λ _ m. BufferOk K m) buffer x l v.each o;
    down = upd_up up (λ _ m. m ≡ []) buffer x l y v.down;
  }

-- ---- the copies of a bucket
abbrev pub CopyOk : (ℕ → Type 0) → ℕ → ℕ → ℕ → List Entry → Type 0
CopyOk K count entries g l = TableOk K (λ b. bucket_of count b ≡ g) entries l

pub record CopiesOk (K : ℕ → Type 0) (count entries : ℕ) (present up : ℕ → Bool) (g : ℕ) (memory disk : ℕ → List Entry) : Type 0 where
  pub memories : (i : ℕ) → CopyOk K count entries g (memory i)
  pub disks : (i : ℕ) → CopyOk K count entries g (disk i)
  pub blank_memory : (i : ℕ) → present i ≡ false → memory i ≡ []
  pub blank_disk : (i : ℕ) → present i ≡ false → disk i ≡ []
  pub down : (i : ℕ) → up i ≡ false → memory i ≡ disk i

module _ {K : ℕ → Type 0} {count entries : ℕ} {present up : ℕ → Bool} {g : ℕ} {memory disk : ℕ → List Entry}
    (v : CopiesOk K count entries present up g memory disk) where
  pub copies_map : {L : ℕ → Type 0} → ((k : ℕ) → K k → L k) → CopiesOk L count entries present up g memory disk
  copies_map f = record {
    memories = λ i. table_map f (v.memories i);
    disks = λ i. table_map f (v.disks i);
    blank_memory = v.blank_memory;
    blank_disk = v.blank_disk;
    down = v.down;
  }

  pub one_memory : {l : List Entry} (x : ℕ) → present x ≡ true → up x ≡ true → CopyOk K count entries g l
      → CopiesOk K count entries present up g (upd memory x l) disk
  one_memory {l} x h y o = record {
    memories = upd_all (λ _ m. CopyOk K count entries g m) memory x l v.memories o;
    disks = v.disks;
    blank_memory = upd_up present (λ _ m. m ≡ []) memory x l h v.blank_memory;
    blank_disk = v.blank_disk;
    down = upd_up up (λ i m. m ≡ disk i) memory x l y v.down;
  }

  pub one_disk : {l : List Entry} (x : ℕ) → present x ≡ true → up x ≡ true → CopyOk K count entries g l
      → CopiesOk K count entries present up g memory (upd disk x l)
  one_disk {l} x h y o = record {
    memories = v.memories;
    disks = upd_all (λ _ m. CopyOk K count entries g m) disk x l v.disks o;
    blank_memory = v.blank_memory;
    blank_disk = upd_up present (λ _ m. m ≡ []) disk x l h v.blank_disk;
    down = upd_up up (λ i m. memory i ≡ m) disk x l y v.down;
  }

-- ---- buckets
module _ {K : ℕ → Type 0} {count entries given : ℕ} {present up : ℕ → Bool} {g : ℕ} {k : Bucket} where
  pub copies : BucketOk K count entries given present up g k → CopiesOk K count entries present up g k.memory k.disk
  copies v = record { memories = v.memory; disks = v.disk; blank_memory = v.blank_memory; blank_disk = v.blank_disk; down = v.down }

  pub bucket_ok : PairOk given k.primary k.backup → PairOk given k.last_primary k.last_backup → k.last_sent ≤ max_view_or_order → k.taken ≤ max_view_or_order
      → CopiesOk K count entries present up g k.memory k.disk → BucketOk K count entries given present up g k
  bucket_ok pair last order taken c = record {
    pair = pair;
    last = last;
    last_sent = order;
    taken = taken;
    memory = c.memories;
    disk = c.disks;
    blank_memory = c.blank_memory;
    blank_disk = c.blank_disk;
    down = c.down;
  }

-- a bucket with other copies
pub new_copies : {K L : ℕ → Type 0} {count entries given g : ℕ} {present up present' up' : ℕ → Bool} {k : Bucket} {memory disk : ℕ → List Entry}
    → BucketOk K count entries given present up g k → CopiesOk L count entries present' up' g memory disk
    → BucketOk L count entries given present' up' g (with_copies k memory disk)
new_copies v c = bucket_ok v.pair v.last v.last_sent v.taken c

pub record BucketsOk (K : ℕ → Type 0) (c : Settings) (given : ℕ) (present up : ℕ → Bool) (bucket : ℕ → Bucket) : Type 0 where
  pub each : (g : ℕ) → g < buckets c → BucketOk K (buckets c) c.entries given present up g (bucket g)
  pub none : (g : ℕ) → buckets c ≤ g → bucket g ≡ blank_bucket

module _ {K : ℕ → Type 0} {c : Settings} {given : ℕ} {present up : ℕ → Bool} {bucket : ℕ → Bucket} (v : BucketsOk K c given present up bucket) where
  pub one_bucket : {k : Bucket} (g : ℕ) → g < buckets c → BucketOk K (buckets c) c.entries given present up g k → BucketsOk K c given present up (upd bucket g k)
  one_bucket {k} g l o = record {
    each = upd_all (λ h k. h < buckets c → BucketOk K (buckets c) c.entries given present up h k) bucket g k v.each (λ _. o);
    none = λ h n. upd_other bucket g h k (λ e. omega arith) ∙ v.none h n;
  }

  -- every bucket in one way
  pub all_buckets : {L : ℕ → Type 0} {given' : ℕ} {present' up' : ℕ → Bool} (f : Bucket → Bucket) → f blank_bucket ≡ blank_bucket
      → ((g : ℕ) → BucketOk K (buckets c) c.entries given present up g (bucket g) → BucketOk L (buckets c) c.entries given' present' up' g (f (bucket g)))
      → BucketsOk L c given' present' up' (λ g. f (bucket g))
  all_buckets f e o = record { each = λ g l. o g (v.each g l); none = λ g n. ap f (v.none g n) ∙ e }

  pub buckets_map : {L : ℕ → Type 0} → ((k : ℕ) → K k → L k) → BucketsOk L c given present up bucket
  buckets_map f = all_buckets (λ k. k) refl (λ g o. new_copies o (copies_map (copies o) f))

-- ---- the bag
pub record BagOk (K : ℕ → Type 0) (count : ℕ) (bag : List Relay) : Type 0 where
  pub room : length bag ≤ max_relays
  pub each : (r : Relay) → Memᴰ r bag → RelayOk K count r

pub bag_map : {K L : ℕ → Type 0} {count : ℕ} {bag : List Relay} → BagOk K count bag → ((k : ℕ) → K k → L k) → BagOk L count bag
bag_map v f = record { room = v.room; each = λ r m. relay_map f (v.each r m) }

-- ---- proxies
pub record ItemsOk (K : ℕ → Type 0) (items : ℕ → List Entry) : Type 0 where
  pub each : (p : ℕ) → TableOk K (λ b. proxy_of b ≡ p) max_items (items p)
  pub none : (p : ℕ) → proxies ≤ p → items p ≡ []

module _ {K : ℕ → Type 0} {items : ℕ → List Entry} (v : ItemsOk K items) where
  pub items_map : {L : ℕ → Type 0} → ((k : ℕ) → K k → L k) → ItemsOk L items
  items_map f = record { each = λ p. table_map f (v.each p); none = v.none }

  pub one_items : {l : List Entry} (p : ℕ) → p < proxies → TableOk K (λ b. proxy_of b ≡ p) max_items l → ItemsOk K (upd items p l)
  one_items {l} p u o = record {
    each = upd_all (λ q m. TableOk K (λ b. proxy_of b ≡ q) max_items m) items p l v.each o;
    none = λ q n. upd_other items p q l (λ e. omega arith) ∙ v.none q n;
  }

pub record KnownOk (known : ℕ → ℕ) : Type 0 where
  pub most : (p : ℕ) → known p ≤ max_view_or_order
  pub none : (p : ℕ) → proxies ≤ p → known p ≡ 0

pub one_known : {known : ℕ → ℕ} {n : ℕ} (p : ℕ) → KnownOk known → p < proxies → n ≤ max_view_or_order → KnownOk (upd known p n)
one_known {known} {n} p v u o = record {
  most = upd_all (λ _ m. m ≤ max_view_or_order) known p n v.most o;
  none = λ q z. upd_other known p q n (λ e. omega arith) ∙ v.none q z;
}

-- ---- the store
pub record Groups (s : State) : Type 0 where
  pub limits : in_limits s.settings ≡ true
  pub bricks : BricksOk s.settings.places s.ids s.given s.bricks.present s.bricks.up s.bricks.member s.bricks.began
  pub numbers : NumbersOk s.bricks.present s.bricks.next s.bricks.ceiling
  pub view_first : 0 < s.view
  pub view_last : s.view ≤ max_view_or_order
  pub started : s.started ≤ s.settings.places
  pub logs : LogsOk (KeyOf s) s.settings.size s.settings.chunks s.bricks.present s.bricks.log
  pub buffers : BuffersOk (KeyOf s) s.bricks.up s.bricks.buffer
  pub bucket : BucketsOk (KeyOf s) s.settings s.given s.bricks.present s.bricks.up s.bucket
  pub bag : BagOk (KeyOf s) (buckets s.settings) s.bag
  pub items : ItemsOk (KeyOf s) s.items
  pub known : KnownOk s.known

module _ {s : State} where
  pub groups : Sound s → Groups s
  groups v = record {
    limits = v.limits;
    bricks = v.bricks;
    numbers = v.numbers;
    view_first = v.view_first;
    view_last = v.view_last;
    started = v.started;
    logs = record { each = v.logs; room = v.log_room; blank = v.log_blank };
    buffers = record { each = v.buffers; down = v.buffer_down };
    bucket = record { each = v.buckets_ok; none = v.no_bucket };
    bag = record { room = v.bag_room; each = v.relays };
    items = record { each = v.items; none = v.no_items };
    known = record { most = v.known; none = v.no_known };
  }

  pub from_groups : Groups s → Sound s
  from_groups v = record {
    limits = v.limits;
    bricks = v.bricks;
    numbers = v.numbers;
    view_first = v.view_first;
    view_last = v.view_last;
    started = v.started;
    logs = v.logs.each;
    log_room = v.logs.room;
    log_blank = v.logs.blank;
    buffers = v.buffers.each;
    buffer_down = v.buffers.down;
    buckets_ok = v.bucket.each;
    bag_room = v.bag.room;
    relays = v.bag.each;
    items = v.items.each;
    known = v.known.most;
    no_bucket = v.bucket.none;
    no_items = v.items.none;
    no_known = v.known.none;
  }

-- an event that leaves settings, places, flags, numbers and the view alone
pub new_parts : {s : State} {log : ℕ → List Chunk} {buffer items : ℕ → List Entry} {bucket : ℕ → Bucket} {bag : List Relay} {known : ℕ → ℕ} → Sound s
    → LogsOk (KeyOf s) s.settings.size s.settings.chunks s.bricks.present log
    → BuffersOk (KeyOf s) s.bricks.up buffer
    → BucketsOk (KeyOf s) s.settings s.given s.bricks.present s.bricks.up bucket
    → BagOk (KeyOf s) (buckets s.settings) bag
    → ItemsOk (KeyOf s) items
    → KnownOk known
    → Sound (set_parts s (set_lists s.bricks log buffer) bucket bag items known)
new_parts v logs buffers bucket bag items known = from_groups (record {
  limits = v.limits;
  bricks = v.bricks;
  numbers = v.numbers;
  view_first = v.view_first;
  view_last = v.view_last;
  started = v.started;
  logs = logs;
  buffers = buffers;
  bucket = bucket;
  bag = bag;
  items = items;
  known = known;
})

module _ {s : State} (v : Sound s) where
  pub member_here : (x : ℕ) → up_member s x ≡ true → s.bricks.present x ≡ true
  member_here x y = v.bricks.up_present x (and_l _ _ y)

  -- an event that changes one brick's log
  pub log_sound : {l : List Chunk} (x : ℕ) → up_member s x ≡ true → LogOk (KeyOf s) s.settings.size l → length l ≤ s.settings.chunks
      → Sound (set_bricks s (with_log s.bricks x l))
  log_sound x y o r =
      let g = groups v in
      new_parts v (one_log g.logs x (member_here x y) o r) g.buffers g.bucket g.bag g.items g.known
