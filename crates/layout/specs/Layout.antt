-- Where each part of the store lies, in 64-bit words: the header, the buckets, the proxies, the bag, and the places, each one contiguous part.
use Rattle.std.specs.Prelude.{List, ℕ, ◌+◌, ◌*◌, ◌/◌, take}
use Rattle.lists.specs.Runs.{run}
use Rattle.rules.specs.declared.settings.Settings.{Settings}
use Rattle.rules.specs.Limits.{proxies, buckets, max_relays, max_items, max_waiting}
use Rattle.rules.specs.Entries.{Entry}
use Rattle.rules.specs.Chunks.{Chunk}
use Rattle.rules.specs.State.{Relay}
use Rattle.chunk_log.specs.Log.{chunks_codec}
use Rattle.codec.specs.Codec.{Codec, word, flag, fixed, via, ◌then◌, many, table, if_present}
use Rattle.layout.specs.Contents.{Head, Agreed, Proxy, Status, Copies, Brick, Place, Contents, blank_agreed, blank_proxy, blank_copies, blank_brick, blank_place}
use Rattle.layout.specs.Contents.{entry_row, relay_row, settings_reading, head_reading, agreed_reading, proxy_reading, status_reading}
use Rattle.layout.specs.Contents.{copies_reading, brick_reading, contents_reading}

-- a word has 8 bytes, so a block is whole words
abbrev pub word_bytes : ℕ
word_bytes = 8

-- the version of this layout, by which a store of another is told: the bytes "DISK0001" as a word
abbrev pub layout_version : ℕ
layout_version = 0x313030304b534944

-- ---- a table of entries
abbrev pub entries_codec : ℕ → Codec (List Entry)
entries_codec most = table most entry_row

-- ---- the header: the version, N, S, M, L, view, given, started
abbrev pub settings_codec : Codec Settings
settings_codec = via settings_reading (word then word then word then word)

abbrev pub head_codec : Codec Head
head_codec = via head_reading (fixed layout_version then settings_codec then word then word then word)

-- ---- a bucket: primary, backup, last primary, last backup, ready, fetched, order, taken
abbrev pub agreed_codec : Codec Agreed
agreed_codec = via agreed_reading (word then word then word then word then flag then flag then word then word)

-- ---- a proxy: the view it knows, its items sorted by block; the bag, oldest first
abbrev pub items_codec : Codec (List Entry)
items_codec = entries_codec max_items

abbrev pub proxy_codec : Codec Proxy
proxy_codec = via proxy_reading (word then items_codec)

abbrev pub bag_codec : Codec (List Relay)
bag_codec = table max_relays relay_row

-- ---- a brick: up, member, began, next, ceiling; the buffer in arrival order; for each bucket the copies in memory and on disk, sorted by block; the log
abbrev pub status_codec : Codec Status
status_codec = via status_reading (flag then flag then flag then word then word)

abbrev pub buffer_codec : Codec (List Entry)
buffer_codec = entries_codec max_waiting

abbrev pub copy_codec : Settings → Codec (List Entry)
copy_codec c = entries_codec c.entries

abbrev pub copies_codec : Settings → Codec Copies
copies_codec c = via copies_reading (copy_codec c then copy_codec c)

abbrev pub all_copies_codec : Settings → Codec (ℕ → Copies)
all_copies_codec c = many (buckets c) blank_copies (copies_codec c)

abbrev pub log_codec : Settings → Codec (List Chunk)
log_codec c = chunks_codec c.chunks (c.size / word_bytes)

abbrev pub brick_codec : Settings → Codec Brick
brick_codec c = via brick_reading (status_codec then buffer_codec then all_copies_codec c then log_codec c)

-- ---- a place: the id of its brick; 0 where it is empty, and then its other words are not in use
abbrev pub place_codec : Settings → Codec Place
place_codec c = if_present blank_brick (brick_codec c)

-- ---- the store
abbrev pub all_agreed_codec : Settings → Codec (ℕ → Agreed)
all_agreed_codec c = many (buckets c) blank_agreed agreed_codec

abbrev pub all_proxies_codec : Codec (ℕ → Proxy)
all_proxies_codec = many proxies blank_proxy proxy_codec

abbrev pub all_places_codec : Settings → Codec (ℕ → Place)
all_places_codec c = many c.places blank_place (place_codec c)

abbrev pub store_codec : Settings → Codec Contents
store_codec c = via contents_reading (head_codec then all_agreed_codec c then all_proxies_codec then bag_codec then all_places_codec c)

-- the settings that a store's words begin with
unfoldable pub settings_of : List ℕ → Settings
settings_of ws = (head_codec.dec (take head_codec.size ws)).settings

-- ---- sizes, in words
abbrev pub head_words : ℕ
head_words = head_codec.size

abbrev pub agreed_words : ℕ
agreed_words = agreed_codec.size

abbrev pub proxy_words : ℕ
proxy_words = proxy_codec.size

abbrev pub bag_words : ℕ
bag_words = bag_codec.size

abbrev pub status_words : ℕ
status_words = status_codec.size

abbrev pub copy_words : Settings → ℕ
copy_words c = (copy_codec c).size

abbrev pub copies_words : Settings → ℕ
copies_words c = (copies_codec c).size

abbrev pub log_words : Settings → ℕ
log_words c = (log_codec c).size

abbrev pub place_words : Settings → ℕ
place_words c = (place_codec c).size

abbrev pub store_words : Settings → ℕ
store_words c = (store_codec c).size

-- ---- offsets in the store
abbrev pub version_at : ℕ
version_at = 0

abbrev pub settings_at : ℕ
settings_at = version_at + 1

abbrev pub view_at : ℕ
view_at = settings_at + settings_codec.size

abbrev pub given_at : ℕ
given_at = view_at + 1

abbrev pub started_at : ℕ
started_at = given_at + 1

abbrev pub agreed_at : ℕ → ℕ
agreed_at g = head_words + g * agreed_words

abbrev pub proxies_at : Settings → ℕ
proxies_at c = head_words + buckets c * agreed_words

abbrev pub proxy_at : Settings → ℕ → ℕ
proxy_at c p = proxies_at c + p * proxy_words

abbrev pub bag_at : Settings → ℕ
bag_at c = proxies_at c + proxies * proxy_words

abbrev pub places_at : Settings → ℕ
places_at c = bag_at c + bag_words

abbrev pub place_at : Settings → ℕ → ℕ
place_at c p = places_at c + p * place_words c

-- ---- the words of a bucket's record, of a proxy, of the bag and of a place
abbrev pub agreed_part : ℕ → List ℕ → List ℕ
agreed_part g ws = run (agreed_at g) agreed_words ws

abbrev pub proxy_part : Settings → ℕ → List ℕ → List ℕ
proxy_part c p ws = run (proxy_at c p) proxy_words ws

abbrev pub bag_part : Settings → List ℕ → List ℕ
bag_part c ws = run (bag_at c) bag_words ws

abbrev pub place_part : Settings → ℕ → List ℕ → List ℕ
place_part c p ws = run (place_at c p) (place_words c) ws

-- ---- offsets in a bucket's record
abbrev pub primary_at : ℕ
primary_at = 0

abbrev pub backup_at : ℕ
backup_at = primary_at + 1

abbrev pub last_primary_at : ℕ
last_primary_at = backup_at + 1

abbrev pub last_backup_at : ℕ
last_backup_at = last_primary_at + 1

abbrev pub ready_at : ℕ
ready_at = last_backup_at + 1

abbrev pub fetched_at : ℕ
fetched_at = ready_at + 1

abbrev pub last_sent_at : ℕ
last_sent_at = fetched_at + 1

abbrev pub taken_at : ℕ
taken_at = last_sent_at + 1

-- ---- offsets in a proxy and in a place
abbrev pub items_at : ℕ
items_at = 1

abbrev pub up_at : ℕ
up_at = 1

abbrev pub member_at : ℕ
member_at = up_at + 1

abbrev pub began_at : ℕ
began_at = member_at + 1

abbrev pub next_at : ℕ
next_at = began_at + 1

abbrev pub ceiling_at : ℕ
ceiling_at = next_at + 1

abbrev pub buffer_at : ℕ
buffer_at = ceiling_at + 1

abbrev pub all_copies_at : ℕ
all_copies_at = buffer_at + buffer_codec.size

abbrev pub copies_at : Settings → ℕ → ℕ
copies_at c g = all_copies_at + g * copies_words c

abbrev pub log_at : Settings → ℕ
log_at c = all_copies_at + buckets c * copies_words c
