-- What several rules read from a store: members, holders, a pair's copies, pending, items.
use Rattle.std.specs.Prelude.{List, [], ◌∷◌, ◌++◌, Bool, not, cond, ℕ, ltb, leb, eqb, length}
use Rattle.lists.specs.Tests.{◌and◌, every, only}
use Rattle.rules.specs.Limits.{buckets}
use Rattle.rules.specs.Numbers.{bucket_of, home_of}
use Rattle.rules.specs.Entries.{Entry, key_for}
use Rattle.rules.specs.Chunks.{held, saved_in}
use Rattle.rules.specs.State.{Bricks, Bucket, State}
use Rattle.rules.specs.Pairs.{ids_of}

-- ---- members
abbrev pub up_member : State → ℕ → Bool
up_member s id = s.bricks.up id and s.bricks.member id

abbrev pub members : State → List ℕ
members s = ids_of s.given s.bricks.member

-- the members from an id upward, circularly
unfoldable pub members_from : State → ℕ → List ℕ
members_from s id = only (leb id) (members s) ++ only (λ i. ltb i id) (members s)

-- the first of some bricks that is up and holds the key: 0 if none does
unfoldable pub first_holder : Bricks → ℕ → List ℕ → ℕ
first_holder bricks key [] = 0
first_holder bricks key (id ∷ rest) = cond (bricks.up id and held (bricks.log id) key) id (first_holder bricks key rest)

-- the chunk is sought from the home id upward, circularly, among up members
unfoldable pub holder : State → ℕ → ℕ
holder s key = first_holder s.bricks key (members_from s (home_of key))

-- the members at which the chunk is saved
unfoldable pub saved_at : State → ℕ → List ℕ
saved_at s key = only (λ i. saved_in (s.bricks.log i) key) (members s)

-- at two members: what question 11 asks for map (request (i)), and whole of every mapped key
unfoldable pub saved_twice : State → ℕ → Bool
saved_twice s key = leb 2 (length (saved_at s key))

-- ---- places
abbrev pub is_up : State → ℕ → Bool
is_up s place = s.bricks.up (s.ids place)

abbrev pub is_empty : State → ℕ → Bool
is_empty s place = eqb (s.ids place) 0

-- ---- the bucket of a block
abbrev pub bucket_no : State → ℕ → ℕ
bucket_no s block = bucket_of (buckets s.settings) block

abbrev pub bucket_at : State → ℕ → Bucket
bucket_at s block = s.bucket (bucket_no s block)

-- ---- a pair's four copies
abbrev pub primary_memory : Bucket → List Entry
primary_memory bucket = bucket.memory bucket.primary

abbrev pub primary_disk : Bucket → List Entry
primary_disk bucket = bucket.disk bucket.primary

abbrev pub backup_memory : Bucket → List Entry
backup_memory bucket = bucket.memory bucket.backup

abbrev pub backup_disk : Bucket → List Entry
backup_disk bucket = bucket.disk bucket.backup

-- all four give one key for the block; a down brick's memory is its disk, and a lost brick gives key 0
unfoldable pub agree : Bucket → ℕ → Bool
agree bucket block =
    eqb (key_for (primary_disk bucket) block) (key_for (primary_memory bucket) block) and eqb (key_for (backup_memory bucket) block) (key_for (primary_memory bucket) block)
    and eqb (key_for (backup_disk bucket) block) (key_for (primary_memory bucket) block)

-- pending: in a ready bucket, the four don't all give one key for the block
unfoldable pub pending : Bucket → ℕ → Bool
pending bucket block = bucket.ready and not (agree bucket block)

-- no block of these entries is pending
unfoldable pub none_pending : Bucket → List Entry → Bool
none_pending bucket entries = every (λ e. not (pending bucket e.block)) entries

-- the bucket is ready, and no block of it is pending: one that none of the four names is not
unfoldable pub nothing_pending : Bucket → Bool
nothing_pending bucket =
    bucket.ready and none_pending bucket (primary_memory bucket) and none_pending bucket (primary_disk bucket)
    and none_pending bucket (backup_memory bucket) and none_pending bucket (backup_disk bucket)

-- ---- proxies
abbrev pub item : State → ℕ → ℕ → ℕ
item s proxy block = key_for (s.items proxy) block
