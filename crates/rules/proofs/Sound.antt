-- Sound as facts: what the test of `specs/Sound` says, and that the columns are those of the places. Each group takes just the parts that it reads, so
-- that an event which leaves those alone keeps the group as it is. `K` is what is asked of a key.
use mathlib.Core.Path.{◌≡◌}
use mathlib.Core.List.{List, [], Memᴰ}
use mathlib.Core.Bool.{Bool, true, false}
use Prim.Native.Nat.{ℕ, ◌≤◌, ◌<◌}
use native.Mathlib.Omega.{arith}
use lib.ListN.{length}
use Rattle.rules.specs.Limits.{in_limits, proxies, buckets, max_relays, max_items, max_waiting, max_id, max_view_or_order}
use Rattle.rules.specs.Numbers.{block_count, proxy_of, bucket_of, sequences, home_of, sequence_of, is_data}
use Rattle.rules.specs.Entries.{Entry, ascending}
use Rattle.rules.specs.Chunks.{Chunk}
use Rattle.rules.specs.State.{Bucket, Relay, State, blank_bucket}
use Rattle.rules.specs.Sound.{keys_apart}

pub record KeyOk (given : ℕ) (present : ℕ → Bool) (next : ℕ → ℕ) (k : ℕ) : Type 0 where
  pub home : 0 < home_of k
  pub born : home_of k ≤ given
  pub used : present (home_of k) ≡ true → sequence_of k < next (home_of k)

-- a key stays sound: no brick given already comes back, and none counts downward
pub key_stays : {given given' : ℕ} {present present' : ℕ → Bool} {next next' : ℕ → ℕ} (k : ℕ) → given ≤ given'
    → ((i : ℕ) → i ≤ given → present' i ≡ true → (present i ≡ true) × (next i ≤ next' i)) → KeyOk given present next k → KeyOk given' present' next' k
key_stays k l f o = record {
  home = o.home;
  born = omega (arith, o.born);
  used = λ y. let t = f (home_of k) o.born y in omega (arith, t.1, o.used t.0);
}

-- ---- lists
pub record EntryOk (K P : ℕ → Type 0) (e : Entry) : Type 0 where
  pub mine : P e.block
  pub small : e.block < block_count
  pub key : K e.key

pub record TableOk (K P : ℕ → Type 0) (most : ℕ) (l : List Entry) : Type 0 where
  pub sorted : ascending 0 l ≡ true
  pub room : length l ≤ most
  pub each : (e : Entry) → Memᴰ e l → EntryOk K P e

pub record BufferOk (K : ℕ → Type 0) (l : List Entry) : Type 0 where
  pub room : length l ≤ max_waiting
  pub each : (e : Entry) → Memᴰ e l → EntryOk K (λ b. Unit {0}) e

pub record ChunkOk (K : ℕ → Type 0) (size : ℕ) (c : Chunk) : Type 0 where
  pub key : K c.key
  pub bytes : is_data size c.bytes ≡ true

pub record LogOk (K : ℕ → Type 0) (size : ℕ) (l : List Chunk) : Type 0 where
  pub apart : keys_apart l ≡ true
  pub each : (c : Chunk) → Memᴰ c l → ChunkOk K size c

pub record RelayOk (K : ℕ → Type 0) (count : ℕ) (r : Relay) : Type 0 where
  pub view : r.view ≤ max_view_or_order
  pub bucket : bucket_of count r.block ≡ r.bucket
  pub order : r.order ≤ max_view_or_order
  pub small : r.block < block_count
  pub key : K r.key

-- ---- the bricks
pub record BricksOk (places : ℕ) (ids : ℕ → ℕ) (given : ℕ) (present up member began : ℕ → Bool) : Type 0 where
  pub few : given ≤ max_id
  pub beyond : (p : ℕ) → places ≤ p → ids p ≡ 0
  pub born : (p : ℕ) → ids p ≤ given
  pub apart : (p q : ℕ) → ids p ≡ ids q → 0 < ids p → p ≡ q
  pub stands : (p : ℕ) → 0 < ids p → present (ids p) ≡ true
  pub somewhere : (i : ℕ) → present i ≡ true → (p : ℕ) × (p < places) × (ids p ≡ i)
  pub first : (i : ℕ) → present i ≡ true → 0 < i
  pub up_present : (i : ℕ) → up i ≡ true → present i ≡ true
  pub member_up : (i : ℕ) → member i ≡ true → up i ≡ true
  pub began_here : (i : ℕ) → began i ≡ true → present i ≡ true

pub record NumbersOk (present : ℕ → Bool) (next ceiling : ℕ → ℕ) : Type 0 where
  pub below : (i : ℕ) → next i ≤ ceiling i
  pub most : (i : ℕ) → ceiling i ≤ sequences
  pub blank_next : (i : ℕ) → present i ≡ false → next i ≡ 0
  pub blank_ceiling : (i : ℕ) → present i ≡ false → ceiling i ≡ 0

-- ---- a bucket
pub record PairOk (given one two : ℕ) : Type 0 where
  pub one_first : 0 < one
  pub one_born : one ≤ given
  pub two_first : 0 < two
  pub two_born : two ≤ given
  pub apart : one ≡ two → ⊥

pub record BucketOk (K : ℕ → Type 0) (count entries given : ℕ) (present up : ℕ → Bool) (g : ℕ) (k : Bucket) : Type 0 where
  pub pair : PairOk given k.primary k.backup
  pub last : PairOk given k.last_primary k.last_backup
  pub last_sent : k.last_sent ≤ max_view_or_order
  pub taken : k.taken ≤ max_view_or_order
  pub memory : (i : ℕ) → TableOk K (λ b. bucket_of count b ≡ g) entries (k.memory i)
  pub disk : (i : ℕ) → TableOk K (λ b. bucket_of count b ≡ g) entries (k.disk i)
  pub blank_memory : (i : ℕ) → present i ≡ false → k.memory i ≡ []
  pub blank_disk : (i : ℕ) → present i ≡ false → k.disk i ≡ []
  pub down : (i : ℕ) → up i ≡ false → k.memory i ≡ k.disk i

-- ---- the store
abbrev pub KeyOf : State → ℕ → Type 0
KeyOf s = KeyOk s.given s.bricks.present s.bricks.next

pub record Sound (s : State) : Type 0 where
  pub limits : in_limits s.settings ≡ true
  pub bricks : BricksOk s.settings.places s.ids s.given s.bricks.present s.bricks.up s.bricks.member s.bricks.began
  pub numbers : NumbersOk s.bricks.present s.bricks.next s.bricks.ceiling
  pub view_first : 0 < s.view
  pub view_last : s.view ≤ max_view_or_order
  pub started : s.started ≤ s.settings.places
  pub logs : (i : ℕ) → LogOk (KeyOf s) s.settings.size (s.bricks.log i)
  pub log_room : (i : ℕ) → length (s.bricks.log i) ≤ s.settings.chunks
  pub log_blank : (i : ℕ) → s.bricks.present i ≡ false → s.bricks.log i ≡ []
  pub buffers : (i : ℕ) → BufferOk (KeyOf s) (s.bricks.buffer i)
  pub buffer_down : (i : ℕ) → s.bricks.up i ≡ false → s.bricks.buffer i ≡ []
  pub buckets_ok : (g : ℕ) → g < buckets s.settings
      → BucketOk (KeyOf s) (buckets s.settings) s.settings.entries s.given s.bricks.present s.bricks.up g (s.bucket g)
  pub bag_room : length s.bag ≤ max_relays
  pub relays : (r : Relay) → Memᴰ r s.bag → RelayOk (KeyOf s) (buckets s.settings) r
  pub items : (p : ℕ) → TableOk (KeyOf s) (λ b. proxy_of b ≡ p) max_items (s.items p)
  pub known : (p : ℕ) → s.known p ≤ max_view_or_order
  -- nothing beyond the buckets and the proxies
  pub no_bucket : (g : ℕ) → buckets s.settings ≤ g → s.bucket g ≡ blank_bucket
  pub no_items : (p : ℕ) → proxies ≤ p → s.items p ≡ []
  pub no_known : (p : ℕ) → proxies ≤ p → s.known p ≡ 0
