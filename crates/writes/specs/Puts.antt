-- put: its questions in two groups, what it does to a place, and what its steps ask.
use Rattle.std.specs.Prelude.{◌≡◌, List, [], ◌∷◌, not, ℕ, suc, ◌+◌, ◌≤◌, ◌<◌, ltb, leb, length, get_or}
use Rattle.lists.specs.Tests.{◌or◌}
use Rattle.lists.specs.Columns.{upd}
use Rattle.lists.specs.Runs.{run}
use Rattle.rules.specs.declared.settings.Settings.{Settings}
use Rattle.rules.specs.Limits.{max_items, ceiling_step}
use Rattle.rules.specs.Numbers.{sequences, is_data}
use Rattle.rules.specs.State.{State, set_bricks}
use Rattle.rules.specs.Derived.{up_member}
use Rattle.rules.specs.Question.{Question, ◌asks◌, is_proxy, is_block, belongs, has_item}
use Rattle.rules.specs.Writes.{new_key, raised, put_effect}
use Rattle.layout.specs.Contents.{Status, Place}
use Rattle.layout.specs.Layout.{place_codec, log_words, log_at}
use Rattle.layout.specs.Store.{decode, render}
use Rattle.records.specs.Records.{with_status}
use Rattle.lent.specs.Places.{HoldsBrick, on_log}
use Rattle.writes.specs.Logs.{with_chunk}

-- ---- the questions: of the fields, and of the store
abbrev pub field_asks : Settings → ℕ → ℕ → ℕ → List ℕ → List Question
field_asks c proxy place block bytes =
    (3 asks is_proxy proxy)
    ∷ (3 asks ltb place c.places)
    ∷ (3 asks is_block block)
    ∷ (3 asks is_data c.size bytes)
    ∷ (4 asks belongs proxy block)
    ∷ []

abbrev pub store_asks : State → ℕ → ℕ → ℕ → List Question
store_asks s proxy place block =
    let id = s.ids place in
    (6 asks up_member s id)
    ∷ (9 asks not (has_item s proxy block))
    ∷ (10 asks ltb (length (s.items proxy)) max_items)
    ∷ (10 asks ltb (length (s.bricks.log id)) s.settings.chunks)
    ∷ (12 asks ltb (s.bricks.next id) (s.bricks.ceiling id) or leb (s.bricks.ceiling id + ceiling_step) sequences)
    ∷ []

-- ---- a place: its next number is given, and the chunk stands last in its log
abbrev pub counted : Status → Status
counted s = record { up = s.up; member = s.member; began = s.began; next = suc s.next; ceiling = raised s.next s.ceiling }

abbrev pub put_in : ℕ → List ℕ → Place → Place
put_in key bytes p = on_log (with_chunk key bytes) (with_status (counted p.snd.status) p)

-- the state after that
abbrev pub put_bricks : State → ℕ → List ℕ → State
put_bricks s id bytes =
    let old = s.bricks in
    set_bricks s (record {
      present = old.present;
      up = old.up;
      member = old.member;
      began = old.began;
      next = upd old.next id (suc (old.next id));
      ceiling = upd old.ceiling id (raised (old.next id) (old.ceiling id));
      log = upd old.log id (with_chunk (new_key s id) bytes (old.log id));
      buffer = old.buffer;
    })

-- ---- what the steps ask
-- len bytes, with the words w, are a place with room for a chunk and a number for it
pub record PutFits (c : Settings) (w : List ℕ) (len : ℕ) (bytes : List ℕ) : Type 0 where
  pub brick : HoldsBrick c w len
  pub next : ((place_codec c).dec w).snd.status.next ≤ ((place_codec c).dec w).snd.status.ceiling
  pub ceiling : ((place_codec c).dec w).snd.status.ceiling ≤ sequences
  pub room : get_or (run (log_at c) (log_words c) w) 0 0 < c.chunks
  pub size : length bytes ≡ c.size

-- what put leaves: the key that it gave, and each word
pub record Put (proxy place block : ℕ) (bytes : List ℕ) (before : List ℕ) (key : ℕ) (after : List ℕ) : Type 0 where
  pub given : key ≡ new_key (decode before) ((decode before).ids place)
  pub leaves : after ≡ render (put_effect (decode before) proxy ((decode before).ids place) block bytes) before
