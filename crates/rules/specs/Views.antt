-- view, fetch and ready: a new view, and how its buckets come to be ready.
use Rattle.std.specs.Prelude.{List, [], ◌∷◌, Bool, true, false, not, cond, ℕ, suc, ◌+◌, ◌*◌, ltb}
use Rattle.lists.specs.Tests.{◌and◌, count_below, only}
use Rattle.lists.specs.Columns.{upd}
use Rattle.rules.specs.Limits.{buckets, max_view_or_order}
use Rattle.rules.specs.Entries.{Entry, is_of_bucket, drain}
use Rattle.rules.specs.State.{State, Bucket, set_bricks, set_bucket, with_buffer}
use Rattle.rules.specs.Pairs.{Assignments, id_in, ids_of, assignments_of, pairs}
use Rattle.rules.specs.Derived.{up_member, is_up}
use Rattle.rules.specs.Question.{Question, ◌asks◌, is_bucket}

-- ---- view: number plus 1; members are all up bricks; buffers emptied; no bucket ready or fetched
-- two bricks up, and more than half of the bricks that the present view began with up, risen ones counted
abbrev pub view_asks : State → List Question
view_asks s =
    let places = s.settings.places in
    (12 asks ltb s.view max_view_or_order)
    ∷ (13 asks ltb 1 (count_below places (is_up s)))
    ∷ (13 asks ltb s.started (2 * count_below places (λ p. is_up s p and s.bricks.began (s.ids p))))
    ∷ []

unfoldable pub last_pairs : State → Assignments
last_pairs s = assignments_of (buckets s.settings) (λ g. (s.bucket g).last_primary) (λ g. (s.bucket g).last_backup)

unfoldable pub view_pairs : State → Assignments
view_pairs s = pairs (buckets s.settings) (ids_of s.given s.bricks.up) (last_pairs s)

-- order numbers and the highest taken number begin again
abbrev pub viewed_bucket : ℕ → ℕ → Bucket → Bucket
viewed_bucket primary backup bucket = record {
  primary = primary;
  backup = backup;
  last_primary = bucket.last_primary;
  last_backup = bucket.last_backup;
  ready = false;
  fetched = false;
  last_sent = 0;
  taken = 0;
  memory = bucket.memory;
  disk = bucket.disk;
}

unfoldable pub view_effect : State → State
view_effect s =
    let old = s.bricks in
    let assigned = view_pairs s in
    record {
      settings = s.settings;
      ids = s.ids;
      given = s.given;
      view = suc s.view;
      started = count_below s.settings.places (is_up s);
      bricks = record {
        present = old.present;
        up = old.up;
        member = old.up;
        began = old.up;
        next = old.next;
        ceiling = old.ceiling;
        log = old.log;
        buffer = λ i. [];
      };
      bucket = λ g. viewed_bucket (id_in assigned (2 * g)) (id_in assigned (2 * g + 1)) (s.bucket g);
      bag = s.bag;
      items = s.items;
      known = s.known;
    }

-- ---- fetch,bucket: the source's memory copy replaces the primary's, memory and disk
-- source: the last ready primary if an up member, else the last ready backup if that is an up member, else none
unfoldable pub source : State → ℕ → ℕ
source s g =
    let bucket = s.bucket g in
    cond (up_member s bucket.last_primary) bucket.last_primary (cond (up_member s bucket.last_backup) bucket.last_backup 0)

abbrev pub fetch_asks : State → ℕ → List Question
fetch_asks s g =
    (3 asks is_bucket s g)
    ∷ (6 asks up_member s (s.bucket g).primary)
    ∷ (13 asks not (s.bucket g).ready)
    ∷ (13 asks ltb 0 (source s g))
    ∷ []

abbrev pub fetched_bucket : ℕ → Bucket → Bucket
fetched_bucket id bucket = record {
  primary = bucket.primary;
  backup = bucket.backup;
  last_primary = bucket.last_primary;
  last_backup = bucket.last_backup;
  ready = bucket.ready;
  fetched = true;
  last_sent = bucket.last_sent;
  taken = bucket.taken;
  memory = upd bucket.memory bucket.primary (bucket.memory id);
  disk = upd bucket.disk bucket.primary (bucket.memory id);
}

unfoldable pub fetch_effect : State → ℕ → State
fetch_effect s g = set_bucket s g (fetched_bucket (source s g) (s.bucket g))

-- ---- ready,bucket: the primary's copy replaces the backup's, memory and disk; the pair becomes the last ready pair; other up bricks drop theirs.
-- The bucket's buffer entries then move into the primary's memory in arrival order
abbrev pub ready_asks : State → ℕ → List Question
ready_asks s g =
    let bucket = s.bucket g in
    (3 asks is_bucket s g)
    ∷ (6 asks up_member s bucket.primary)
    ∷ (6 asks up_member s bucket.backup)
    ∷ (13 asks bucket.fetched)
    ∷ (13 asks not bucket.ready)
    ∷ []

unfoldable pub dropped : (ℕ → Bool) → (ℕ → List Entry) → ℕ → List Entry
dropped up copies id = cond (up id) [] (copies id)

abbrev pub ready_bucket : (ℕ → Bool) → List Entry → Bucket → Bucket
ready_bucket up drained bucket = record {
  primary = bucket.primary;
  backup = bucket.backup;
  last_primary = bucket.primary;
  last_backup = bucket.backup;
  ready = true;
  fetched = bucket.fetched;
  last_sent = bucket.last_sent;
  taken = bucket.taken;
  memory = upd (upd (dropped up bucket.memory) bucket.backup (bucket.memory bucket.primary)) bucket.primary drained;
  disk = upd (upd (dropped up bucket.disk) bucket.backup (bucket.memory bucket.primary)) bucket.primary (bucket.disk bucket.primary);
}

unfoldable pub ready_effect : State → ℕ → State
ready_effect s g =
    let bucket = s.bucket g in
    let id = bucket.primary in
    let waits = s.bricks.buffer id in
    let mine = is_of_bucket (buckets s.settings) g in
    set_bucket (set_bricks s (with_buffer s.bricks id (only (λ e. not (mine e)) waits))) g
    (ready_bucket s.bricks.up (drain s.settings.entries (bucket.memory id) (only mine waits)) bucket)
