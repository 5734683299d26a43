-- The invariant of the ageing rule, beside `Sound`. Each group takes just the parts that it reads, so that an event which leaves those alone keeps the group
-- as it is. `w` is the history's writes by block, `count` the number of buckets, `g` a bucket.
use mathlib.Core.Path.{◌≡◌}
use mathlib.Core.List.{List, Memᴰ}
use mathlib.Core.Bool.{Bool, true, false}
use mathlib.Core.Logic.{◌⊎◌}
use Prim.Native.Nat.{ℕ, ◌≤◌, ◌<◌}
use lib.ListN.{length}
use Rattle.rules.specs.Limits.{buckets}
use Rattle.rules.specs.Numbers.{bucket_of}
use Rattle.rules.specs.Entries.{Entry, key_for}
use Rattle.rules.specs.Chunks.{Chunk}
use Rattle.rules.specs.State.{Bucket, Relay, State}
use Rattle.rules.proofs.Sound.{KeyOf}
use Rattle.history.specs.Claim.{Write, History, number, written}
use Rattle.history.proofs.Copies.{ReliedOn, Copies, Same}

abbrev pub Writes : Type 0
Writes = ℕ → List Write

-- a key that is 0 or some write's of the block
abbrev pub Known : Writes → ℕ → ℕ → Type 0
Known w b k = (k ≡ 0) ⊎ (0 < number (w b) k)

-- of two keys of a block, the first is no later write
abbrev pub Older : Writes → ℕ → ℕ → ℕ → Type 0
Older w b j k = number (w b) j ≤ number (w b) k

-- an item's key is the block's last write
pub record Newest (w : Writes) (b k : ℕ) : Type 0 where
  pub is_write : 0 < number (w b) k
  pub last : number (w b) k ≡ length (w b)

-- a chunk has the bytes of the write with its key
abbrev pub BytesOfWrite : Writes → ℕ → List ℕ → Type 0
BytesOfWrite w key bytes = (b : ℕ) → 0 < number (w b) key → bytes ≡ written (w b) key

-- a relay carries a write, and is of no later view
pub record Sent (w : Writes) (view : ℕ) (r : Relay) : Type 0 where
  pub is_write : 0 < number (w r.block) r.key
  pub past : r.view ≤ view

-- ---- of one bucket
-- a key in a copy that may be read later: it is known, no lower than the mark, and no later write than one that waits in a buffer
pub record Readable (w : Writes) (mark : ℕ → ℕ) (count : ℕ) (buffer : ℕ → List Entry) (g b k : ℕ) : Type 0 where
  pub known : Known w b k
  pub floor : bucket_of count b ≡ g → mark b ≤ number (w b) k
  pub waits : (i : ℕ) (e : Entry) → Memᴰ e (buffer i) → e.block ≡ b → Older w b k e.key

-- what waits in a buffer waits at the primary of a bucket that is not ready
pub record Waiting (w : Writes) (mark : ℕ → ℕ) (primary : ℕ) (ready : Bool) (i : ℕ) (e : Entry) : Type 0 where
  pub whose : i ≡ primary
  pub unready : ready ≡ false
  pub is_write : 0 < number (w e.block) e.key
  pub floor : mark e.block ≤ number (w e.block) e.key

-- a relay of this bucket and view
pub record InBag (g view : ℕ) (bag : List Relay) (r : Relay) : Type 0 where
  pub in_bag : Memᴰ r bag
  pub mine : r.bucket ≡ g
  pub now : r.view ≡ view

-- they are numbered up to the last order number sent, are in the bag only while the bucket is ready, and of two of one block the one sent later is no older write
pub record Queue (w : Writes) (g : ℕ) (bag : List Relay) (view order : ℕ) (ready : Bool) : Type 0 where
  pub ordered : (r : Relay) → InBag g view bag r → r.order ≤ order
  pub while_ready : (r : Relay) → InBag g view bag r → ready ≡ true
  pub sorted : (r t : Relay) → InBag g view bag r → InBag g view bag t → r.order < t.order → r.block ≡ t.block → Older w r.block r.key t.key

-- the backup's memory has no later write than a relay not yet taken, and its disk none later than its memory; where the primary is a member, its memory has
-- none older than the relays, nor than the backup's memory
pub record Flight (w : Writes) (g : ℕ) (memory disk : ℕ → List Entry) (member : ℕ → Bool) (bag : List Relay) (view taken primary backup : ℕ)
    (ready : Bool) : Type 0 where
  pub behind : (r : Relay) → InBag g view bag r → taken < r.order → Older w r.block (key_for (memory backup) r.block) r.key
  pub disk_behind : ready ≡ true → (b : ℕ) → Older w b (key_for (disk backup) b) (key_for (memory backup) b)
  pub leads : member primary ≡ true → (r : Relay) → InBag g view bag r → Older w r.block r.key (key_for (memory primary) r.block)
  pub ahead : ready ≡ true → member primary ≡ true → (b : ℕ) → Older w b (key_for (memory backup) b) (key_for (memory primary) b)

pub record BucketAge (w : Writes) (mark : ℕ → ℕ) (count view : ℕ) (bag : List Relay) (buffer : ℕ → List Entry) (present member : ℕ → Bool) (g : ℕ)
    (k : Bucket) : Type 0 where
  -- a ready bucket's last ready pair is its pair
  pub same : k.ready ≡ true → Same k
  pub copies : Copies (Readable w mark count buffer g) (ReliedOn present k) k.memory k.disk
  pub waiting : (i : ℕ) (e : Entry) → Memᴰ e (buffer i) → bucket_of count e.block ≡ g → Waiting w mark k.primary k.ready i e
  pub queue : Queue w g bag view k.last_sent k.ready
  pub flight : Flight w g k.memory k.disk member bag view k.taken k.primary k.backup k.ready

-- ---- of the whole store
abbrev pub AgeOf : State → History → ℕ → Bucket → Type 0
AgeOf s h g k =
    g < buckets s.settings
    → BucketAge h.writes h.mark (buckets s.settings) s.view s.bag s.bricks.buffer s.bricks.present s.bricks.member g k

pub record AgeingInvariant (s : State) (h : History) : Type 0 where
  -- a write's home id was given already; of a brick present its sequence number is below the next
  pub keys : (b k : ℕ) → 0 < number (h.writes b) k → KeyOf s k
  pub marked : (b : ℕ) → h.mark b ≤ length (h.writes b)
  pub items : (p : ℕ) (e : Entry) → Memᴰ e (s.items p) → Newest h.writes e.block e.key
  pub logs : (i : ℕ) (c : Chunk) → Memᴰ c (s.bricks.log i) → BytesOfWrite h.writes c.key c.bytes
  pub relays : (r : Relay) → Memᴰ r s.bag → Sent h.writes s.view r
  pub buckets : (g : ℕ) → AgeOf s h g (s.bucket g)
