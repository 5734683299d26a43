-- put, copy and savelog.
use Rattle.std.specs.Prelude.{List, [], ◌∷◌, Bool, false, not, cond, ℕ, suc, ◌+◌, ltb, leb, eqb, length}
use Rattle.lists.specs.Tests.{◌and◌, ◌or◌}
use Rattle.lists.specs.Columns.{upd}
use Rattle.rules.specs.Limits.{max_items, ceiling_step, max_id}
use Rattle.rules.specs.Numbers.{sequences, key_of, home_of, is_data}
use Rattle.rules.specs.Entries.{insert}
use Rattle.rules.specs.Chunks.{new_chunk, held, bytes_in, append, save_all}
use Rattle.rules.specs.State.{State, set_bricks, set_items, with_log}
use Rattle.rules.specs.Derived.{up_member, members_from}
use Rattle.rules.specs.Question.{Question, ◌asks◌, is_proxy, is_place, is_block, belongs, has_item}

-- ---- put,proxy,place,block,data: an unsaved chunk under a new key, and an item; answers the key
abbrev pub put_asks : State → ℕ → ℕ → ℕ → List ℕ → List Question
put_asks s proxy place block bytes =
    let id = s.ids place in
    let next = s.bricks.next id in
    let ceiling = s.bricks.ceiling id in
    (3 asks is_proxy proxy)
    ∷ (3 asks is_place s place)
    ∷ (3 asks is_block block)
    ∷ (3 asks is_data s.settings.size bytes)
    ∷ (4 asks belongs proxy block)
    ∷ (6 asks up_member s id)
    ∷ (9 asks not (has_item s proxy block))
    ∷ (10 asks ltb (length (s.items proxy)) max_items)
    ∷ (10 asks ltb (length (s.bricks.log id)) s.settings.chunks)
    ∷ (12 asks ltb next ceiling or leb (ceiling + ceiling_step) sequences)
    ∷ []

abbrev pub new_key : State → ℕ → ℕ
new_key s id = key_of id (s.bricks.next id)

-- where next equals the ceiling, a put first raises the ceiling by 1,024
unfoldable pub raised : ℕ → ℕ → ℕ
raised next ceiling = cond (eqb next ceiling) (ceiling + ceiling_step) ceiling

unfoldable pub put_effect : State → ℕ → ℕ → ℕ → List ℕ → State
put_effect s proxy id block bytes =
    let old = s.bricks in
    set_items (set_bricks s (record {
      present = old.present;
      up = old.up;
      member = old.member;
      began = old.began;
      next = upd old.next id (suc (old.next id));
      ceiling = upd old.ceiling id (raised (old.next id) (old.ceiling id));
      log = upd old.log id (append (old.log id) (new_chunk (new_key s id) false bytes));
      buffer = old.buffer;
    })) proxy (insert (s.items proxy) block (new_key s id))

-- ---- copy,key: from the home brick to the next other member by id, circularly, unsaved; no change if held or if there is none
unfoldable pub other_than : ℕ → List ℕ → ℕ
other_than home [] = 0
other_than home (id ∷ rest) = cond (eqb id home) (other_than home rest) id

unfoldable pub target : State → ℕ → ℕ
target s key = other_than (home_of key) (members_from s (home_of key))

abbrev pub nothing_to_copy : State → ℕ → Bool
nothing_to_copy s key = eqb (target s key) 0 or held (s.bricks.log (target s key)) key

abbrev pub copy_asks : State → ℕ → List Question
copy_asks s key =
    (3 asks ltb 0 (home_of key) and leb (home_of key) max_id)
    ∷ (6 asks up_member s (home_of key))
    ∷ (10 asks nothing_to_copy s key or ltb (length (s.bricks.log (target s key))) s.settings.chunks)
    ∷ (11 asks held (s.bricks.log (home_of key)) key)
    ∷ []

unfoldable pub copy_effect : State → ℕ → State
copy_effect s key =
    let to = target s key in
    let new = new_chunk key false (bytes_in (s.bricks.log (home_of key)) key) in
    set_bricks s (cond (nothing_to_copy s key) s.bricks (with_log s.bricks to (append (s.bricks.log to) new)))

-- ---- savelog,place: all its chunks become saved
abbrev pub savelog_asks : State → ℕ → List Question
savelog_asks s place = (3 asks is_place s place) ∷ (6 asks up_member s (s.ids place)) ∷ []

unfoldable pub savelog_effect : State → ℕ → State
savelog_effect s id = set_bricks s (with_log s.bricks id (save_all (s.bricks.log id)))
