-- Sound. 01's list, item by item, and the definition that states each:
--   settings in limits                                    sound, by in-limits
--   the length theirs                                     sound-words of crates/layout/specs/Store.antt
--   counts in range                                       sound-entries, sound-log, sound-bag
--   ids in range                                          sound-header, sound-place, sound-pair, sound-key
--   keys in range                                         sound-key
--   places in range                                       sound-header: the view began with at most as many bricks as there are places
--   flags in range                                        sound-words of crates/layout/specs/Store.antt
--   no id at two places                                   alone
--   no block twice in a copy                              sound-table
--   no key twice in a log                                 keys-apart
--   next at most the ceiling                              sound-status
--   no key of a brick present at or above its next        sound-key
--   every id given already                                sound-place, sound-pair, sound-key
--   no pair with one brick twice                          sound-pair
--   each block in its bucket's copy, its proxy's items    sound-copies by in-bucket, sound-proxy by belongs
-- In four points more is asked than this list says (docs/DECISIONS.md). No list of events from format leads to a store that they refuse:
--   a member is up                                        sound-status
--   a down brick's memory is its disk, its buffer empty   sound-copies, sound-buffer
--   copies and items are sorted by block                  sound-table
--   a relay's bucket is its block's                       sound-relay
-- What the layout adds (its version in the first word; a log's positions in order of keys) stands in crates/layout/specs/Store.antt, sound-words.
-- Each test takes what it reads, so that the check of lent bytes promises the same tests of what it decodes.
use Rattle.std.specs.Prelude.{List, [], ◌∷◌, Bool, true, false, not, ℕ, ltb, leb, eqb, length}
use Rattle.lists.specs.Tests.{◌and◌, ◌or◌, all_below, every}
use Rattle.rules.specs.declared.settings.Settings.{Settings}
use Rattle.rules.specs.Limits.{in_limits, proxies, buckets, max_relays, max_items, max_waiting, max_id, max_view_or_order}
use Rattle.rules.specs.Numbers.{block_count, bucket_of, sequences, home_of, sequence_of, is_data}
use Rattle.rules.specs.Entries.{Entry, ascending}
use Rattle.rules.specs.Chunks.{Chunk, held}
use Rattle.rules.specs.State.{Relay, State}
use Rattle.rules.specs.Question.{belongs}

-- ---- the header: the view, the highest id given, the number of bricks that the view began with
unfoldable pub sound_header : Settings → ℕ → ℕ → ℕ → Bool
sound_header settings view given started = leb given max_id and ltb 0 view and leb view max_view_or_order and leb started settings.places

-- ---- a key: its id was given already, and of a brick present it is below its next. Below, `keys` is a test of keys
unfoldable pub sound_key : State → ℕ → Bool
sound_key s key =
    ltb 0 (home_of key) and leb (home_of key) s.given and (not (s.bricks.present (home_of key)) or ltb (sequence_of key) (s.bricks.next (home_of key)))

-- ---- entries: block numbers and keys in range, each block where it belongs
unfoldable pub sound_entry : (ℕ → Bool) → (ℕ → Bool) → Entry → Bool
sound_entry keys mine entry = mine entry.block and ltb entry.block block_count and keys entry.key

unfoldable pub sound_entries : (ℕ → Bool) → (ℕ → Bool) → ℕ → List Entry → Bool
sound_entries keys mine most entries = leb (length entries) most and every (sound_entry keys mine) entries

-- a copy or items: no block twice (blocks ascend)
unfoldable pub sound_table : (ℕ → Bool) → (ℕ → Bool) → ℕ → List Entry → Bool
sound_table keys mine most entries = ascending 0 entries and sound_entries keys mine most entries

abbrev pub anyone : ℕ → Bool
anyone block = true

unfoldable pub in_bucket : Settings → ℕ → ℕ → Bool
in_bucket settings number block = eqb (bucket_of (buckets settings) block) number

-- ---- a log: counts and keys in range, no key twice
unfoldable pub keys_apart : List Chunk → Bool
keys_apart [] = true
keys_apart (chunk ∷ rest) = not (held rest chunk.key) and keys_apart rest

unfoldable pub sound_chunk : (ℕ → Bool) → ℕ → Chunk → Bool
sound_chunk keys size chunk = keys chunk.key and is_data size chunk.bytes

unfoldable pub sound_log : (ℕ → Bool) → Settings → List Chunk → Bool
sound_log keys settings log = keys_apart log and leb (length log) settings.chunks and every (sound_chunk keys settings.size) log

-- ---- a brick: next at most the ceiling; a member is up; a down brick's memory is its disk, and its buffer is empty
unfoldable pub sound_status : Bool → Bool → ℕ → ℕ → Bool
sound_status up member next ceiling = (not member or up) and leb next ceiling and leb ceiling sequences

unfoldable pub sound_buffer : (ℕ → Bool) → Bool → List Entry → Bool
sound_buffer keys up entries = sound_entries keys anyone max_waiting entries and (up or eqb (length entries) 0)

unfoldable pub same_entries : List Entry → List Entry → Bool
same_entries [] [] = true
same_entries [] (e ∷ m) = false
same_entries (e ∷ l) [] = false
same_entries (e ∷ l) (f ∷ m) = eqb e.block f.block and eqb e.key f.key and same_entries l m

unfoldable pub sound_copies : (ℕ → Bool) → Settings → Bool → ℕ → List Entry → List Entry → Bool
sound_copies keys settings up number memory disk =
    sound_table keys (in_bucket settings number) settings.entries memory and sound_table keys (in_bucket settings number) settings.entries disk
    and (up or same_entries memory disk)

unfoldable pub sound_brick : State → ℕ → Bool
sound_brick s id =
    let keys = sound_key s in
    let bricks = s.bricks in
    sound_status (bricks.up id) (bricks.member id) (bricks.next id) (bricks.ceiling id) and sound_buffer keys (bricks.up id) (bricks.buffer id)
    and all_below (buckets s.settings) (λ g. sound_copies keys s.settings (bricks.up id) g ((s.bucket g).memory id) ((s.bucket g).disk id))
    and sound_log keys s.settings (bricks.log id)

-- ---- places: ids given already, no id at two places. `brick` is a test of the brick at a place
unfoldable pub alone : (ℕ → ℕ) → ℕ → Bool
alone ids place = all_below place (λ q. not (eqb (ids q) (ids place)))

unfoldable pub sound_place : ℕ → (ℕ → ℕ) → (ℕ → Bool) → ℕ → Bool
sound_place given ids brick place = eqb (ids place) 0 or (leb (ids place) given and alone ids place and brick place)

-- ---- buckets: every id given already, no pair with one brick twice
unfoldable pub sound_pair : ℕ → ℕ → ℕ → Bool
sound_pair given one two = ltb 0 one and leb one given and ltb 0 two and leb two given and not (eqb one two)

unfoldable pub sound_bucket : ℕ → ℕ → ℕ → ℕ → ℕ → ℕ → ℕ → Bool
sound_bucket given primary backup last_primary last_backup order taken =
    sound_pair given primary backup and sound_pair given last_primary last_backup and leb order max_view_or_order and leb taken max_view_or_order

-- ---- relays: a relay's bucket is its block's
unfoldable pub sound_relay : (ℕ → Bool) → Settings → Relay → Bool
sound_relay keys settings relay =
    leb relay.view max_view_or_order and in_bucket settings relay.bucket relay.block and leb relay.order max_view_or_order and ltb relay.block block_count
    and keys relay.key

unfoldable pub sound_bag : (ℕ → Bool) → Settings → List Relay → Bool
sound_bag keys settings relays = leb (length relays) max_relays and every (sound_relay keys settings) relays

-- ---- proxies
unfoldable pub sound_proxy : (ℕ → Bool) → ℕ → ℕ → List Entry → Bool
sound_proxy keys proxy known items = leb known max_view_or_order and sound_table keys (belongs proxy) max_items items

-- ---- the store
unfoldable pub sound : State → Bool
sound s =
    let keys = sound_key s in
    in_limits s.settings and sound_header s.settings s.view s.given s.started
    and all_below s.settings.places (sound_place s.given s.ids (λ p. sound_brick s (s.ids p)))
    and all_below (buckets s.settings)
    (λ g. let k = s.bucket g in sound_bucket s.given k.primary k.backup k.last_primary k.last_backup k.last_sent k.taken)
    and sound_bag keys s.settings s.bag and all_below proxies (λ p. sound_proxy keys p (s.known p) (s.items p))
