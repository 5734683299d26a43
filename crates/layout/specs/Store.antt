-- Words decoded to the rules' state, a state rendered over words, and which words are sound.
use Rattle.std.specs.Prelude.{List, Bool, ℕ, ◌*◌, ◌%◌, eqb, length}
use Rattle.lists.specs.Tests.{◌and◌, same_numbers}
use Rattle.words.specs.Words.{words, unwords}
use Rattle.rules.specs.declared.settings.Settings.{Settings}
use Rattle.rules.specs.State.{Bucket, State}
use Rattle.rules.specs.Sound.{sound}
use Rattle.codec.specs.Codec.{◌&◌}
use Rattle.layout.specs.Places.{by_id}
use Rattle.layout.specs.Contents.{Agreed, Brick, Contents, blank_brick}
use Rattle.layout.specs.Layout.{word_bytes, store_codec, settings_of, store_words}

-- ---- from places to ids
unfoldable pub brick_at : Contents → ℕ → Brick
brick_at d = by_id d.head.settings.places (λ p. (d.place p).fst) blank_brick (λ p. (d.place p).snd)

abbrev pub bucket_with : Agreed → ℕ → (ℕ → Brick) → Bucket
bucket_with k g bricks = record {
  primary = k.primary;
  backup = k.backup;
  last_primary = k.last_primary;
  last_backup = k.last_backup;
  ready = k.ready;
  fetched = k.fetched;
  last_sent = k.last_sent;
  taken = k.taken;
  memory = λ i. ((bricks i).copies g).memory;
  disk = λ i. ((bricks i).copies g).disk;
}

abbrev pub state_with : Contents → (ℕ → Brick) → State
state_with d bricks = record {
  settings = d.head.settings;
  ids = λ p. (d.place p).fst;
  given = d.head.given;
  view = d.head.view;
  started = d.head.started;
  bricks = record {
    present = λ i. (bricks i).present;
    up = λ i. (bricks i).status.up;
    member = λ i. (bricks i).status.member;
    began = λ i. (bricks i).status.began;
    next = λ i. (bricks i).status.next;
    ceiling = λ i. (bricks i).status.ceiling;
    log = λ i. (bricks i).log;
    buffer = λ i. (bricks i).buffer;
  };
  bucket = λ g. bucket_with (d.agreed g) g bricks;
  bag = d.bag;
  items = λ p. (d.proxy p).items;
  known = λ p. (d.proxy p).known;
}

abbrev pub to_state : Contents → State
to_state d = state_with d (brick_at d)

-- ---- from ids to places
abbrev pub brick_in : State → ℕ → Brick
brick_in s i = record {
  present = s.bricks.present i;
  status = record {
    up = s.bricks.up i;
    member = s.bricks.member i;
    began = s.bricks.began i;
    next = s.bricks.next i;
    ceiling = s.bricks.ceiling i;
  };
  buffer = s.bricks.buffer i;
  copies = λ g. record { memory = (s.bucket g).memory i; disk = (s.bucket g).disk i };
  log = s.bricks.log i;
}

abbrev pub agreed_in : Bucket → Agreed
agreed_in k = record {
  primary = k.primary;
  backup = k.backup;
  last_primary = k.last_primary;
  last_backup = k.last_backup;
  ready = k.ready;
  fetched = k.fetched;
  last_sent = k.last_sent;
  taken = k.taken;
}

abbrev pub contents_of : State → Contents
contents_of s = record {
  head = record { settings = s.settings; view = s.view; given = s.given; started = s.started };
  agreed = λ g. agreed_in (s.bucket g);
  proxy = λ p. record { known = s.known p; items = s.items p };
  bag = s.bag;
  place = λ p. s.ids p & brick_in s (s.ids p);
}

-- ---- words
unfoldable pub decode : List ℕ → State
decode ws = to_state ((store_codec (settings_of ws)).dec ws)

unfoldable pub render : State → List ℕ → List ℕ
render s ws = (store_codec s.settings).enc (contents_of s) ws

-- ---- sound
-- the length is that of the settings; the words are what their own state renders (so the first word is the layout's version, flags are 0 or 1, and
-- a log's positions list its rows by ascending key); and the state is sound (so the settings are in limits). The state holds no version: only the
-- layout asks for it
unfoldable pub sound_words : List ℕ → Bool
sound_words ws = eqb (length ws) (store_words (settings_of ws)) and same_numbers (render (decode ws) ws) ws and sound (decode ws)

-- ---- bytes
unfoldable pub decode_bytes : List ℕ → State
decode_bytes bs = decode (words bs)

unfoldable pub render_bytes : State → List ℕ → List ℕ
render_bytes s bs = unwords (render s (words bs))

-- so many bytes are lent for a store of these settings
abbrev pub store_bytes : Settings → ℕ
store_bytes c = word_bytes * store_words c

-- the bytes are whole words, and those are sound
unfoldable pub sound_bytes : List ℕ → Bool
sound_bytes bs = eqb (length bs % word_bytes) 0 and sound_words (words bs)
