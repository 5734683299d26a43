-- What a store holds, place by place, and how each record is made of its parts in the order in which they lie.
use Rattle.std.specs.Prelude.{List, [], ◌∷◌, Bool, true, false, ℕ, get_or}
use Rattle.rules.specs.declared.settings.Settings.{Settings}
use Rattle.rules.specs.Entries.{Entry, entry}
use Rattle.rules.specs.Chunks.{Chunk}
use Rattle.rules.specs.State.{Relay}
use Rattle.codec.specs.Codec.{Reading, Row, Two, ◌&◌}

-- ---- rows: block, key
abbrev pub entry_row : Row Entry
entry_row = record { size = 2; read = λ w. entry (get_or w 0 0) (get_or w 1 0); write = λ e. e.block ∷ e.key ∷ [] }

-- the bag is a list of records: view, bucket, order number, block, key
abbrev pub relay : ℕ → ℕ → ℕ → ℕ → ℕ → Relay
relay v g o b k = record { view = v; bucket = g; order = o; block = b; key = k }

abbrev pub relay_row : Row Relay
relay_row = record {
  size = 5;
  read = λ w. relay (get_or w 0 0) (get_or w 1 0) (get_or w 2 0) (get_or w 3 0) (get_or w 4 0);
  write = λ r. r.view ∷ r.bucket ∷ r.order ∷ r.block ∷ r.key ∷ [];
}

-- ---- the header
abbrev pub settings_reading : Reading (Two ℕ (Two ℕ (Two ℕ ℕ))) Settings
settings_reading = record {
  to = λ t. record { places = t.fst; size = t.snd.fst; entries = t.snd.snd.fst; chunks = t.snd.snd.snd };
  from = λ c. c.places & c.size & c.entries & c.chunks;
}

pub record Head : Type 0 where
  pub settings : Settings
  pub view : ℕ
  pub given : ℕ
  pub started : ℕ

-- the version of the layout comes first, and is no part of the value
abbrev pub head_reading : Reading (Two (Unit {0}) (Two Settings (Two ℕ (Two ℕ ℕ)))) Head
head_reading = record {
  to = λ t. record { settings = t.snd.fst; view = t.snd.snd.fst; given = t.snd.snd.snd.fst; started = t.snd.snd.snd.snd };
  from = λ h. tt & h.settings & h.view & h.given & h.started;
}

-- ---- a bucket's share of the agreed record
pub record Agreed : Type 0 where
  pub primary : ℕ
  pub backup : ℕ
  pub last_primary : ℕ
  pub last_backup : ℕ
  pub ready : Bool
  pub fetched : Bool
  pub last_sent : ℕ
  pub taken : ℕ

abbrev pub blank_agreed : Agreed
blank_agreed = record { primary = 0; backup = 0; last_primary = 0; last_backup = 0; ready = false; fetched = false; last_sent = 0; taken = 0 }

abbrev pub agreed_reading : Reading (Two ℕ (Two ℕ (Two ℕ (Two ℕ (Two Bool (Two Bool (Two ℕ ℕ))))))) Agreed
agreed_reading = record {
  to = λ t. record {
    primary = t.fst;
    backup = t.snd.fst;
    last_primary = t.snd.snd.fst;
    last_backup = t.snd.snd.snd.fst;
    ready = t.snd.snd.snd.snd.fst;
    fetched = t.snd.snd.snd.snd.snd.fst;
    last_sent = t.snd.snd.snd.snd.snd.snd.fst;
    taken = t.snd.snd.snd.snd.snd.snd.snd;
  };
  from = λ k. k.primary & k.backup & k.last_primary & k.last_backup & k.ready & k.fetched & k.last_sent & k.taken;
}

-- ---- a proxy has the view it knows and items
pub record Proxy : Type 0 where
  pub known : ℕ
  pub items : List Entry

abbrev pub blank_proxy : Proxy
blank_proxy = record { known = 0; items = [] }

abbrev pub proxy_reading : Reading (Two ℕ (List Entry)) Proxy
proxy_reading = record { to = λ t. record { known = t.fst; items = t.snd }; from = λ p. p.known & p.items }

-- ---- a brick has its status, an append buffer, bucket copies in memory and on disk, and a chunk log
pub record Status : Type 0 where
  pub up : Bool
  pub member : Bool
  pub began : Bool
  pub next : ℕ
  pub ceiling : ℕ

abbrev pub blank_status : Status
blank_status = record { up = false; member = false; began = false; next = 0; ceiling = 0 }

abbrev pub status_reading : Reading (Two Bool (Two Bool (Two Bool (Two ℕ ℕ)))) Status
status_reading = record {
  to = λ t. record { up = t.fst; member = t.snd.fst; began = t.snd.snd.fst; next = t.snd.snd.snd.fst; ceiling = t.snd.snd.snd.snd };
  from = λ k. k.up & k.member & k.began & k.next & k.ceiling;
}

pub record Copies : Type 0 where
  pub memory : List Entry
  pub disk : List Entry

abbrev pub blank_copies : Copies
blank_copies = record { memory = []; disk = [] }

abbrev pub copies_reading : Reading (Two (List Entry) (List Entry)) Copies
copies_reading = record { to = λ t. record { memory = t.fst; disk = t.snd }; from = λ k. k.memory & k.disk }

pub record Brick : Type 0 where
  -- some place holds it
  pub present : Bool
  pub status : Status
  pub buffer : List Entry
  pub copies : ℕ → Copies
  pub log : List Chunk

-- what stands under an id that no place has
abbrev pub blank_brick : Brick
blank_brick = record { present = false; status = blank_status; buffer = []; copies = λ g. blank_copies; log = [] }

-- a brick that is read from a place is here
abbrev pub brick_reading : Reading (Two Status (Two (List Entry) (Two (ℕ → Copies) (List Chunk)))) Brick
brick_reading = record {
  to = λ t. record { present = true; status = t.fst; buffer = t.snd.fst; copies = t.snd.snd.fst; log = t.snd.snd.snd };
  from = λ b. b.status & b.buffer & b.copies & b.log;
}

-- a place holds a brick or is empty: id 0
abbrev pub Place : Type 0
Place = Two ℕ Brick

abbrev pub blank_place : Place
blank_place = 0 & blank_brick

-- ---- the store
pub record Contents : Type 0 where
  pub head : Head
  pub agreed : ℕ → Agreed
  pub proxy : ℕ → Proxy
  pub bag : List Relay
  pub place : ℕ → Place

abbrev pub contents_reading : Reading (Two Head (Two (ℕ → Agreed) (Two (ℕ → Proxy) (Two (List Relay) (ℕ → Place))))) Contents
contents_reading = record {
  to = λ t. record { head = t.fst; agreed = t.snd.fst; proxy = t.snd.snd.fst; bag = t.snd.snd.snd.fst; place = t.snd.snd.snd.snd };
  from = λ d. d.head & d.agreed & d.proxy & d.bag & d.place;
}
