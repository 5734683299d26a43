-- The invariants of the claims on want, beside `Sound` and `AgeingInvariant`. What is asked of the keys in use is a parameter of the groups: `K`.
use mathlib.Core.Path.{◌≡◌}
use mathlib.Core.List.{List, Memᴰ}
use mathlib.Core.Bool.{Bool, true, false}
use mathlib.Core.Logic.{◌⊎◌}
use Prim.Native.Nat.{ℕ, ◌≤◌, ◌<◌}
use Rattle.lists.specs.Tests.{all_below}
use Rattle.lists.specs.Columns.{upd}
use Rattle.lists.proofs.Tests.{and_r, all_at}
use Rattle.rules.specs.Limits.{buckets}
use Rattle.rules.specs.Entries.{Entry, key_for}
use Rattle.rules.specs.Chunks.{Chunk, saved_in}
use Rattle.rules.specs.State.{Bucket, Relay, State}
use Rattle.rules.specs.Derived.{up_member}
use Rattle.history.proofs.Copies.{ReliedOn, Copies}
use Rattle.history.proofs.AgeingInvariant.{InBag}

-- ---- a key that one of some bricks has saved
pub record Safe (among : ℕ → Bool) (log : ℕ → List Chunk) (k : ℕ) : Type 0 where
  pub who : ℕ
  pub is_among : among who ≡ true
  pub saved : saved_in (log who) k ≡ true

abbrev pub Kept : (ℕ → Bool) → (ℕ → List Chunk) → ℕ → Type 0
Kept among log k = (k ≡ 0) ⊎ Safe among log k

-- two of them have it saved: whichever one is left out, another has
abbrev pub KeptTwice : (ℕ → Bool) → (ℕ → List Chunk) → ℕ → Type 0
KeptTwice among log k = (x : ℕ) → Kept (upd among x false) log k

-- by a member; by two bricks that are present
abbrev pub KeptBy : State → ℕ → Type 0
KeptBy s = Kept s.bricks.member s.bricks.log

abbrev pub TwiceBy : State → ℕ → Type 0
TwiceBy s = KeptTwice s.bricks.present s.bricks.log

-- ---- the keys in use
-- the relays of this view that are not yet taken
abbrev pub EachLive : ℕ → List Relay → ℕ → ℕ → (Relay → Type 0) → Type 0
EachLive g bag view taken P = (r : Relay) → InBag g view bag r → taken < r.order → P r

pub record BucketUse (K : ℕ → Type 0) (present : ℕ → Bool) (bag : List Relay) (view g : ℕ) (k : Bucket) : Type 0 where
  pub copies : Copies (λ b. K) (ReliedOn present k) k.memory k.disk
  pub live_kept : EachLive g bag view k.taken (λ r. K r.key)

pub record InUse (K : ℕ → Type 0) (count : ℕ) (present : ℕ → Bool) (bag : List Relay) (view : ℕ) (buffer : ℕ → List Entry) (bucket : ℕ → Bucket) : Type 0 where
  pub waiting : (i : ℕ) (e : Entry) → Memᴰ e (buffer i) → K e.key
  pub buckets : (g : ℕ) → g < count → BucketUse K present bag view g (bucket g)

abbrev pub Uses : (ℕ → Type 0) → State → Type 0
Uses K s = InUse K (buckets s.settings) s.bricks.present s.bag s.view s.bricks.buffer s.bucket

-- ---- for lists in which every accepted crash and loss finds a whole store
-- every place holds a member
abbrev pub Full : ℕ → (ℕ → ℕ) → (ℕ → Bool) → Type 0
Full places ids member = (p : ℕ) → p < places → member (ids p) ≡ true

pub all_full : (s : State) → all_below s.settings.places (λ p. up_member s (s.ids p)) ≡ true → Full s.settings.places s.ids s.bricks.member
all_full s y p l = and_r _ _ (all_at s.settings.places (λ p. up_member s (s.ids p)) y p l)

pub record PairWant (places : ℕ) (ids : ℕ → ℕ) (member : ℕ → Bool) (last_primary last_backup : ℕ) (ready is_open : Bool) : Type 0 where
  -- since a view with no ready after it the bucket is not ready
  pub tracked : is_open ≡ true → ready ≡ false
  -- the last ready pair has a member
  pub one : (member last_primary ≡ true) ⊎ (member last_backup ≡ true)
  -- a place that stops holding a member stays so until the next view: where none did, a ready bucket's pair are members
  pub all : ready ≡ true → Full places ids member → (member last_primary ≡ true) × (member last_backup ≡ true)

pub record BucketWant (places : ℕ) (ids : ℕ → ℕ) (member : ℕ → Bool) (bag : List Relay) (view : ℕ) (is_open : Bool) (g : ℕ) (k : Bucket) : Type 0 where
  pub pair : PairWant places ids member k.last_primary k.last_backup k.ready is_open
  -- what a primary that is no member any more has sent is what the backup has
  pub matches_backup : k.ready ≡ true → member k.primary ≡ false → EachLive g bag view k.taken (λ r. r.key ≡ key_for (k.memory k.backup) r.block)

abbrev pub WantOf : State → (ℕ → Bool) → ℕ → Bucket → Type 0
WantOf s o g k = g < buckets s.settings → BucketWant s.settings.places s.ids s.bricks.member s.bag s.view (o g) g k

abbrev pub Wants : State → (ℕ → Bool) → Type 0
Wants s o = (g : ℕ) → WantOf s o g (s.bucket g)

-- `o` has the buckets of which a view was accepted and no ready has been since
pub record WantInvariant (s : State) (o : ℕ → Bool) : Type 0 where
  pub uses : Uses (KeptBy s) s
  pub buckets : Wants s o

-- ---- for lists in which nothing is ever lost and every accepted crash finds each place an up member
-- so at most one brick is no member
pub record BricksKept (places given : ℕ) (ids : ℕ → ℕ) (present member : ℕ → Bool) : Type 0 where
  pub no_empty : (p : ℕ) → p < places → 0 < ids p
  pub is_present : (i : ℕ) → 0 < i → i ≤ given → present i ≡ true
  pub one_out : (i j : ℕ) → present i ≡ true → present j ≡ true → member i ≡ false → member j ≡ false → i ≡ j

abbrev pub NoneLost : State → Type 0
NoneLost s = BricksKept s.settings.places s.given s.ids s.bricks.present s.bricks.member

pub record TwoSavedInvariant (s : State) : Type 0 where
  pub bricks : NoneLost s
  pub uses : Uses (TwiceBy s) s
