-- mend and collect.
use Rattle.std.specs.Prelude.{List, [], ◌∷◌, Bool, true, false, cond, ℕ, zero, suc, ltb, leb, eqb, length}
use Rattle.lists.specs.Tests.{◌and◌, ◌or◌, all_below, any_below}
use Rattle.rules.specs.Limits.{proxies, buckets}
use Rattle.rules.specs.Numbers.{home_of}
use Rattle.rules.specs.Entries.{Entry, names}
use Rattle.rules.specs.Chunks.{Chunk, new_chunk, held, bytes_in, append, save_key, only_named}
use Rattle.rules.specs.State.{State, Bucket, set_bricks, with_log}
use Rattle.rules.specs.Derived.{up_member, is_empty, members_from, holder, primary_memory, primary_disk, backup_memory, backup_disk, nothing_pending}
use Rattle.rules.specs.Question.{Question, ◌asks◌, is_place}

-- ---- mend,place: the place gets saved (held ones become saved) every chunk named in memory by a primary of a ready bucket for which it is one of
-- the first two members from the home id upward, where an up member holds it
unfoldable pub of_first_two : ℕ → List ℕ → Bool
of_first_two id [] = false
of_first_two id (one ∷ []) = eqb one id
of_first_two id (one ∷ two ∷ rest) = eqb one id or eqb two id

-- one key, in the log of brick x
unfoldable pub mend_key : State → ℕ → List Chunk → ℕ → List Chunk
mend_key s id log key =
    let from = holder s key in
    let new = new_chunk key true (bytes_in (s.bricks.log from) key) in
    cond (of_first_two id (members_from s (home_of key)) and ltb 0 from) (cond (held log key) (save_key log key) (append log new)) log

unfoldable pub mend_keys : State → ℕ → List Chunk → List Entry → List Chunk
mend_keys s id log [] = log
mend_keys s id log (entry ∷ rest) = mend_keys s id (mend_key s id log entry.key) rest

-- the ready ones of the first n buckets, in order
unfoldable pub mend_buckets : State → ℕ → ℕ → List Chunk
mend_buckets s id zero = s.bricks.log id
mend_buckets s id (suc g) =
    let bucket = s.bucket g in
    let log = mend_buckets s id g in
    cond bucket.ready (mend_keys s id log (primary_memory bucket)) log

abbrev pub mended : State → ℕ → List Chunk
mended s id = mend_buckets s id (buckets s.settings)

abbrev pub mend_asks : State → ℕ → List Question
mend_asks s place =
    (3 asks is_place s place)
    ∷ (6 asks up_member s (s.ids place))
    ∷ (10 asks leb (length (mended s (s.ids place))) s.settings.chunks)
    ∷ []

unfoldable pub mend_effect : State → ℕ → State
mend_effect s id = set_bricks s (with_log s.bricks id (mended s id))

-- ---- collect,place: chunks that no pair's copy names go
abbrev pub pair_names : Bucket → ℕ → Bool
pair_names bucket key =
    names (primary_memory bucket) key or names (primary_disk bucket) key or names (backup_memory bucket) key or names (backup_disk bucket) key

unfoldable pub is_named : State → ℕ → Bool
is_named s key = any_below (buckets s.settings) (λ g. pair_names (s.bucket g) key)

-- no place down, all up bricks members, all ready, nothing pending, no items
abbrev pub collect_asks : State → ℕ → List Question
collect_asks s place =
    (3 asks is_place s place)
    ∷ (6 asks up_member s (s.ids place))
    ∷ (13 asks all_below s.settings.places (λ p. is_empty s p or up_member s (s.ids p)))
    ∷ (13 asks all_below (buckets s.settings) (λ g. nothing_pending (s.bucket g)))
    ∷ (13 asks all_below proxies (λ p. eqb (length (s.items p)) 0))
    ∷ []

unfoldable pub collect_effect : State → ℕ → State
collect_effect s id = set_bricks s (with_log s.bricks id (only_named (is_named s) (s.bricks.log id)))
