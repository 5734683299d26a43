-- crash, lose, rise and join: what happens to a place's brick.
use Rattle.std.specs.Prelude.{List, [], ◌∷◌, Bool, true, false, not, ℕ, suc, ltb}
use Rattle.lists.specs.Tests.{◌and◌}
use Rattle.lists.specs.Columns.{upd}
use Rattle.rules.specs.Limits.{max_id}
use Rattle.rules.specs.Chunks.{only_saved}
use Rattle.rules.specs.State.{State, Bricks, Bucket, set_bricks, set_buckets, with_copies}
use Rattle.rules.specs.Derived.{is_up, is_empty}
use Rattle.rules.specs.Question.{Question, ◌asks◌, is_place}

-- ---- crash,place: unsaved chunks, buffer and unsaved entries go; down. It ends the brick's membership. After a crash next is the ceiling
abbrev pub crash_asks : State → ℕ → List Question
crash_asks s place = (3 asks is_place s place) ∷ (13 asks is_up s place) ∷ []

abbrev pub crashed_bucket : ℕ → Bucket → Bucket
crashed_bucket id bucket = with_copies bucket (upd bucket.memory id (bucket.disk id)) bucket.disk

unfoldable pub crash_effect : State → ℕ → State
crash_effect s id =
    let old = s.bricks in
    set_buckets (set_bricks s (record {
      present = old.present;
      up = upd old.up id false;
      member = upd old.member id false;
      began = old.began;
      next = upd old.next id (old.ceiling id);
      ceiling = old.ceiling;
      log = upd old.log id (only_saved (old.log id));
      buffer = upd old.buffer id [];
    })) (λ g. crashed_bucket id (s.bucket g))

-- ---- lose,place: the place is empty. It ends the brick's membership
abbrev pub lose_asks : State → ℕ → List Question
lose_asks s place = (3 asks is_place s place) ∷ (13 asks not (is_empty s place)) ∷ []

-- nothing is left of the brick, or nothing is there yet but whether some place holds it and whether it is up
abbrev pub blanked_brick : Bricks → ℕ → Bool → Bricks
blanked_brick old id there = record {
  present = upd old.present id there;
  up = upd old.up id there;
  member = upd old.member id false;
  began = upd old.began id false;
  next = upd old.next id 0;
  ceiling = upd old.ceiling id 0;
  log = upd old.log id [];
  buffer = upd old.buffer id [];
}

abbrev pub blanked_copies : ℕ → Bucket → Bucket
blanked_copies id bucket = with_copies bucket (upd bucket.memory id []) (upd bucket.disk id [])

unfoldable pub lose_effect : State → ℕ → ℕ → State
lose_effect s place id = record {
  settings = s.settings;
  ids = upd s.ids place 0;
  given = s.given;
  view = s.view;
  started = s.started;
  bricks = blanked_brick s.bricks id false;
  bucket = λ g. blanked_copies id (s.bucket g);
  bag = s.bag;
  items = s.items;
  known = s.known;
}

-- ---- rise,place: up, no member yet
abbrev pub rise_asks : State → ℕ → List Question
rise_asks s place = (3 asks is_place s place) ∷ (13 asks not (is_empty s place) and not (is_up s place)) ∷ []

unfoldable pub rise_effect : State → ℕ → State
rise_effect s id =
    let old = s.bricks in
    set_bricks s (record {
      present = old.present;
      up = upd old.up id true;
      member = old.member;
      began = old.began;
      next = old.next;
      ceiling = old.ceiling;
      log = old.log;
      buffer = old.buffer;
    })

-- ---- join,place: a blank brick with the lowest id never given, up
abbrev pub join_asks : State → ℕ → List Question
join_asks s place = (3 asks is_place s place) ∷ (12 asks ltb s.given max_id) ∷ (13 asks is_empty s place) ∷ []

unfoldable pub join_effect : State → ℕ → State
join_effect s place =
    let id = suc s.given in
    record {
      settings = s.settings;
      ids = upd s.ids place id;
      given = id;
      view = s.view;
      started = s.started;
      bricks = blanked_brick s.bricks id true;
      bucket = λ g. blanked_copies id (s.bucket g);
      bag = s.bag;
      items = s.items;
      known = s.known;
    }
