-- Where a brick stands, and the bytes of a place.
use Rattle.std.specs.Prelude.{◌≡◌, List, true, false, ℕ, ◌+◌, ◌*◌, ◌/◌, ◌≤◌, ◌<◌, length, get_or, Option, Some, None}
use Rattle.lists.specs.Runs.{run}
use Rattle.words.specs.Words.{words}
use Rattle.rules.specs.declared.settings.Settings.{Settings}
use Rattle.rules.specs.Limits.{buckets}
use Rattle.rules.specs.Chunks.{Chunk}
use Rattle.rules.specs.State.{State, set_bricks, with_log}
use Rattle.rules.specs.Derived.{up_member}
use Rattle.rules.specs.Limits.{Limits}
use Rattle.chunk_log.specs.Log.{IsLog}
use Rattle.codec.specs.Codec.{Clean, ◌&◌}
use Rattle.layout.specs.Contents.{Place, blank_brick}
use Rattle.layout.specs.Layout.{word_bytes, place_codec, all_places_codec, copy_words, log_words, place_words, place_at, copies_at, log_at, place_part}
use Rattle.layout.specs.Store.{brick_in, store_bytes}

-- ---- where a brick stands
-- the place holds the brick with this id
pub record Stands (settings : Settings) (s : State) (id place : ℕ) : Type 0 where
  pub inside : place < settings.places
  pub some : 0 < id
  pub here : s.ids place ≡ id

-- a place that holds the brick; where there is none, all of the brick is blank
abbrev pub PlaceOf : Settings → State → ℕ → Option ℕ → Type 0
PlaceOf settings s id (Some place) = Stands settings s id place
PlaceOf settings s id (None) = brick_in s id ≡ blank_brick

-- a place that holds it as an up member
pub record MemberAt (settings : Settings) (s : State) (id place : ℕ) : Type 0 where
  pub stands : Stands settings s id place
  pub up : up_member s id ≡ true

abbrev pub MemberOf : Settings → State → ℕ → Option ℕ → Type 0
MemberOf settings s id (Some place) = MemberAt settings s id place
MemberOf settings s id (None) = up_member s id ≡ false

-- ---- the bytes of a place
-- lent to be read
pub record PlacePart (settings : Settings) (place : ℕ) (store part : List ℕ) : Type 0 where
  pub size : length part ≡ 8 * place_words settings
  pub same : words part ≡ place_part settings place (words store)

-- count words of it, from its word at on, lent to be read
pub record WordsOf (settings : Settings) (place at count : ℕ) (store part : List ℕ) : Type 0 where
  pub whole : List ℕ
  pub of_place : PlacePart settings place store whole
  pub size : length part ≡ 8 * count
  pub same : words part ≡ run at count (words whole)

-- from which byte to which they lie, in a store of these settings
pub record SpanOf (settings : Settings) (place from to : ℕ) : Type 0 where
  pub start : from ≡ 8 * place_at settings place
  pub size : to ≡ from + 8 * place_words settings
  pub inside : to ≤ store_bytes settings

-- len bytes, with the words w, are a place with a sound brick: what is known of a part that is lent to be written
pub record HoldsBrick (c : Settings) (w : List ℕ) (len : ℕ) : Type 0 where
  pub limits : Limits c
  pub size : len ≡ 8 * place_words c
  pub filled : 0 < ((place_codec c).dec w).fst
  pub clean : Clean (place_codec c) w
  -- counts in range
  pub memory : (g : ℕ) → g < buckets c → get_or w (copies_at c g) 0 ≤ c.entries
  pub disk : (g : ℕ) → g < buckets c → get_or w (copies_at c g + copy_words c) 0 ≤ c.entries
  pub log : IsLog c.chunks (c.size / word_bytes) (run (log_at c) (log_words c) w) (8 * log_words c)

-- len bytes, with the words w, are a place that has a log
pub record PlaceLog (c : Settings) (w : List ℕ) (len : ℕ) : Type 0 where
  pub limits : Limits c
  pub size : len ≡ 8 * place_words c
  pub log : IsLog c.chunks (c.size / word_bytes) (run (log_at c) (log_words c) w) (8 * log_words c)

-- len bytes, with the words w, are a place, or all places, as a sound store has them
pub record CleanPlace (c : Settings) (w : List ℕ) (len : ℕ) : Type 0 where
  pub limits : Limits c
  pub size : len ≡ 8 * place_words c
  pub clean : Clean (place_codec c) w

pub record CleanPlaces (c : Settings) (w : List ℕ) (len : ℕ) : Type 0 where
  pub limits : Limits c
  pub size : len ≡ 8 * (c.places * place_words c)
  pub clean : Clean (all_places_codec c) w

-- the log of the place's brick changed, all else as it was
abbrev pub on_log : (List Chunk → List Chunk) → Place → Place
on_log f p = p.fst & record { present = p.snd.present; status = p.snd.status; buffer = p.snd.buffer; copies = p.snd.copies; log = f p.snd.log }

-- ---- a log of the store
-- the word at which that of a place begins
abbrev pub log_from : Settings → ℕ → ℕ
log_from c p = place_at c p + log_at c

-- the state with another log at a brick
abbrev pub with_chunks : State → ℕ → List Chunk → State
with_chunks s id log = set_bricks s (with_log s.bricks id log)
