-- Settings and limits. The settings are the code's struct; its associated constants are these limits, by the proof of its constructor.
use Rattle.std.specs.Prelude.{Result, Ok, Err, ◌≡◌, Bool, cond, ℕ, ◌-◌, ◌%◌, ◌^◌, ◌≤◌, leb, eqb}
use Rattle.lists.specs.Tests.{◌and◌}
use Rattle.rules.specs.declared.settings.Settings.{Settings}
use Rattle.rules.specs.declared.refusal.Refusal.{Refusal}
use Rattle.rules.specs.declared.refusal.Refusal.TheVariants.{BadSettings}

-- places N 3 to 8
abbrev pub min_places : ℕ
min_places = 3

abbrev pub max_places : ℕ
max_places = 8

-- block size S 8 to 8,192 bytes, a multiple of 8
abbrev pub min_size : ℕ
min_size = 8

abbrev pub max_size : ℕ
max_size = 8192

abbrev pub size_step : ℕ
size_step = 8

-- entries M 2 to 1,024 in each bucket copy
abbrev pub min_entries : ℕ
min_entries = 2

abbrev pub max_entries : ℕ
max_entries = 1024

-- log L 4 to 65,536 chunks for each brick
abbrev pub min_chunks : ℕ
min_chunks = 4

abbrev pub max_chunks : ℕ
max_chunks = 65536

unfoldable pub in_range : ℕ → ℕ → ℕ → Bool
in_range low high n = leb low n and leb n high

-- question 1, of the settings
unfoldable pub in_limits : Settings → Bool
in_limits settings =
    in_range min_places max_places settings.places and in_range min_size max_size settings.size and eqb (settings.size % size_step) 0
    and in_range min_entries max_entries settings.entries and in_range min_chunks max_chunks settings.chunks

-- settings in their limits, as facts: what contracts ask
pub record Limits (c : Settings) : Type 0 where
  pub places_from : min_places ≤ c.places
  pub places_to : c.places ≤ max_places
  pub size_from : min_size ≤ c.size
  pub size_to : c.size ≤ max_size
  pub size_words : c.size % size_step ≡ 0
  pub entries_from : min_entries ≤ c.entries
  pub entries_to : c.entries ≤ max_entries
  pub chunks_from : min_chunks ≤ c.chunks
  pub chunks_to : c.chunks ≤ max_chunks

-- what the constructor of settings answers
unfoldable pub checked : ℕ → ℕ → ℕ → ℕ → Result Settings Refusal
checked places size entries chunks =
    let settings : Settings = record { places = places; size = size; entries = entries; chunks = chunks } in
    cond (in_limits settings) (Ok settings) (Err BadSettings)

-- there are 4 proxies and 16 buckets; whatever speaks of buckets takes their number from the settings
abbrev pub proxies : ℕ
proxies = 4

unfoldable pub buckets : Settings → ℕ
buckets settings = 16

-- whatever has room for a number of each bucket has it for so many
abbrev pub max_buckets : ℕ
max_buckets = 64

-- the bag holds at most 64 relays, a proxy at most 32 items, an append buffer at most 32 entries
abbrev pub max_relays : ℕ
max_relays = 64

abbrev pub max_items : ℕ
max_items = 32

abbrev pub max_waiting : ℕ
max_waiting = 32

-- a put raises the ceiling by 1,024
abbrev pub ceiling_step : ℕ
ceiling_step = 1024

-- ids are 1 to 255
abbrev pub max_id : ℕ
max_id = 255

-- view and order numbers have 32 bits
abbrev pub max_view_or_order : ℕ
max_view_or_order = 2 ^ 32 - 1
