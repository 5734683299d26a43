-- The test of bucket copies in words, and what its check requires.
use Rattle.std.specs.Prelude.{◌≡◌, List, Bool, true, ℕ, ◌+◌, ◌*◌, ◌≤◌, ◌<◌, length, get_or}
use Rattle.lists.specs.Runs.{run, nth_run}
use Rattle.rules.specs.declared.settings.Settings.{Settings}
use Rattle.words.specs.Words.{words}
use Rattle.rules.specs.Limits.{buckets, max_entries}
use Rattle.rules.specs.Entries.{Entry}
use Rattle.rules.specs.Sound.{sound_table, in_bucket, sound_copies}
use Rattle.layout.specs.Layout.{copy_codec, copies_codec, copy_words, copies_words, place_words, store_words, place_at, copies_at}
use Rattle.rules.specs.Limits.{Limits}
use Rattle.row_checks.specs.Rows.{ids, key_below}

-- of bucket g, in the words of all
unfoldable pub copies_sound : Settings → (ℕ → Bool) → Bool → List ℕ → ℕ → Bool
copies_sound c keys up ws g = let k = (copies_codec c).dec (nth_run (copies_words c) g ws) in sound_copies keys c up g k.memory k.disk

-- n words after the first in each of three tables
pub record AlikeFit (one second third n : ℕ) : Type 0 where
  pub first_room : 8 * (1 + n) ≤ one
  pub second_room : 8 * (1 + n) ≤ second
  pub third_room : 8 * (1 + n) ≤ third

-- the copy of bucket g in memory at place q, in the words of a store
abbrev pub memory_of : Settings → List ℕ → ℕ → ℕ → List ℕ
memory_of c ws g q = run (place_at c q + copies_at c g) (copy_words c) ws

abbrev pub HoldsBrick : Settings → List ℕ → ℕ → Type 0
HoldsBrick c ws q = 0 < get_or ws (place_at c q) 0

-- r is a place below p that holds a brick and has n rows in the table at word `from`
pub record Earlier (c : Settings) (ws : List ℕ) (p from n r : ℕ) : Type 0 where
  pub inside : r < p
  pub brick : HoldsBrick c ws r
  pub rows : get_or ws (place_at c r + from) 0 ≡ n

-- a place below p holds a brick with these entries in its copy of bucket g in memory
pub record Known (c : Settings) (g : ℕ) (ws : List ℕ) (p : ℕ) (l : List Entry) : Type 0 where
  pub place : ℕ
  pub below : place < p
  pub brick : HoldsBrick c ws place
  pub same : (copy_codec c).dec (memory_of c ws g place) ≡ l

-- the copies in memory at the places below p pass
pub record Passed (c : Settings) (bounds : List ℕ) (store : List ℕ) (p : ℕ) : Type 0 where
  pub small : Limits c
  pub size : length store ≡ 8 * store_words c
  pub inside : p < c.places
  pub each : (g q : ℕ) → g < buckets c → q < p → HoldsBrick c (words store) q
      → sound_table (key_below bounds) (in_bucket c g) c.entries ((copy_codec c).dec (memory_of c (words store) g q)) ≡ true

pub record EarlierFit (c : Settings) (bytes p from : ℕ) : Type 0 where
  pub small : Limits c
  pub size : bytes ≡ 8 * store_words c
  pub inside : p < c.places
  pub start : from < place_words c

pub record ComparedFit (c : Settings) (g bytes p : ℕ) (memory disk : List ℕ) : Type 0 where
  pub small : Limits c
  pub size : bytes ≡ 8 * store_words c
  pub inside : p < c.places
  pub bucket : g < buckets c
  pub few : get_or (words memory) 0 0 ≤ c.entries
  pub memory_size : length memory ≡ 8 * copy_words c
  pub disk_few : get_or (words disk) 0 0 ≤ c.entries
  pub disk_size : length disk ≡ 8 * copy_words c

-- a copy that is known passes
pub record MemoryFit (c : Settings) (bounds : List ℕ) (g : ℕ) (known : Bool) (memory : List ℕ) : Type 0 where
  pub bounds_size : length bounds ≡ ids
  pub few : c.entries ≤ max_entries
  pub passed : known ≡ true → sound_table (key_below bounds) (in_bucket c g) c.entries ((copy_codec c).dec (words memory)) ≡ true
  pub size : length memory ≡ 8 * copy_words c

pub record CopiesFit (c : Settings) (bounds : List ℕ) (g : ℕ) (store : List ℕ) (p bytes : ℕ) : Type 0 where
  pub known : length bounds ≡ ids
  pub bucket : g < buckets c
  pub passed : Passed c bounds store p
  pub size : bytes ≡ 8 * copies_words c

pub record AllCopiesFit (c : Settings) (bounds : List ℕ) (store : List ℕ) (p bytes : ℕ) : Type 0 where
  pub known : length bounds ≡ ids
  pub passed : Passed c bounds store p
  pub size : bytes ≡ 8 * (buckets c * copies_words c)
