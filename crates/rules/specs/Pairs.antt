-- The pairs of a view, over the number of buckets.
-- Assignments: one list of brick ids, two for each bucket g, its primary at 2 g and its backup at 2 g + 1. Id 0 is no brick.
use Rattle.std.specs.Prelude.{List, [], ◌∷◌, ◌++◌, Bool, false, not, cond, ℕ, zero, suc, ◌+◌, ◌*◌, ◌-◌, ◌/◌, ltb, eqb, length, get_or, set}
use Rattle.lists.specs.Tests.{◌and◌, ◌or◌}

abbrev pub Assignments : Type 0
Assignments = List ℕ

-- the brick in position k
abbrev pub id_in : Assignments → ℕ → ℕ
id_in assigned position = get_or assigned position 0

unfoldable pub among : List ℕ → ℕ → Bool
among [] id = false
among (member ∷ members) id = eqb member id or among members id

-- a brick's assignments, in both roles
unfoldable pub load : Assignments → ℕ → ℕ
load [] id = 0
load (holder ∷ rest) id = cond (eqb holder id) 1 0 + load rest id

-- the ids from 1 to n of which a test holds, ascending
unfoldable pub ids_of : ℕ → (ℕ → Bool) → List ℕ
ids_of zero test = []
ids_of (suc n) test = ids_of n test ++ cond (test (suc n)) (suc n ∷ []) []

-- ---- the least loaded member

-- fewest assignments, lowest id on a tie: a brick is preferred to another where that is none, has more, or has as many and the higher id
unfoldable pub preferred : Assignments → ℕ → ℕ → Bool
preferred assigned id other = eqb other 0 or (ltb (load assigned id) (load assigned other) or (eqb (load assigned id) (load assigned other) and ltb id other))

-- a member, unless it is one of two bricks, where it is preferred to the other one
unfoldable pub choose : Assignments → ℕ → ℕ → ℕ → ℕ → ℕ
choose assigned one two id other = cond (eqb id one or eqb id two) other (cond (preferred assigned id other) id other)

-- the least loaded member that is neither of two bricks: 0 if there is none
unfoldable pub least_loaded : Assignments → List ℕ → ℕ → ℕ → ℕ
least_loaded assigned [] one two = 0
least_loaded assigned (member ∷ members) one two = choose assigned one two member (least_loaded assigned members one two)

-- ---- what is done at one bucket

-- a brick, if it is a member and not the other one of its pair
unfoldable pub kept_of_pair : List ℕ → ℕ → ℕ → ℕ
kept_of_pair members id other = cond (among members id and not (eqb id other)) id 0

-- keep those that are members; a lone backup becomes primary
unfoldable pub keep_at : List ℕ → ℕ → Assignments → Assignments
keep_at members bucket assigned =
    let primary = kept_of_pair members (id_in assigned (2 * bucket)) 0 in
    let backup = kept_of_pair members (id_in assigned (2 * bucket + 1)) primary in
    set (set assigned (2 * bucket) (cond (eqb primary 0) backup primary)) (2 * bucket + 1) (cond (eqb primary 0) 0 backup)

-- an empty position gets the least loaded member that is not in the other position of its pair
unfoldable pub fill_position : List ℕ → ℕ → ℕ → Assignments → Assignments
fill_position members position other assigned = cond (eqb (id_in assigned position) 0) (set assigned position (least_loaded assigned members 0 (id_in assigned other))) assigned

-- a holder with more than its share gives way to the least loaded member outside the pair, if that has fewer
unfoldable pub give_way : List ℕ → ℕ → ℕ → ℕ → Assignments → Assignments
give_way members share position other assigned =
    let id = least_loaded assigned members (id_in assigned position) (id_in assigned other) in
    cond (ltb share (load assigned (id_in assigned position)) and (ltb 0 id and ltb (load assigned id) share)) (set assigned position id) assigned

-- ---- the buckets in order

unfoldable pub in_order : ℕ → (ℕ → Assignments → Assignments) → Assignments → Assignments
in_order zero f assigned = assigned
in_order (suc n) f assigned = f n (in_order n f assigned)

-- then fill, by bucket, primary before backup
abbrev pub fill_at : List ℕ → ℕ → Assignments → Assignments
fill_at members bucket assigned = fill_position members (2 * bucket + 1) (2 * bucket) (fill_position members (2 * bucket) (2 * bucket + 1) assigned)

-- one role at a bucket: 0 is the primary, 1 the backup
abbrev pub walk_at : List ℕ → ℕ → ℕ → ℕ → Assignments → Assignments
walk_at members share role bucket = give_way members share (2 * bucket + role) (2 * bucket + (1 - role))

unfoldable pub filled : ℕ → List ℕ → Assignments → Assignments
filled n members last = in_order n (fill_at members) (in_order n (keep_at members) last)

-- walk the buckets twice, backups first, then primaries
unfoldable pub walked : ℕ → List ℕ → ℕ → Assignments → Assignments
walked n members share assigned = in_order n (walk_at members share 0) (in_order n (walk_at members share 1) assigned)

-- c = 32 / members rounded up: twice the number of buckets
unfoldable pub share : ℕ → ℕ → ℕ
share n zero = 0
share n (suc rest) = (2 * n + rest) / suc rest

-- the pairs of n buckets in a view with these members, from the last ready pairs
unfoldable pub pairs : ℕ → List ℕ → Assignments → Assignments
pairs n members last = walked n members (share n (length members)) (filled n members last)

-- assignments from a column of primaries and one of backups
unfoldable pub assignments_of : ℕ → (ℕ → ℕ) → (ℕ → ℕ) → Assignments
assignments_of zero primary backup = []
assignments_of (suc n) primary backup = assignments_of n primary backup ++ primary n ∷ backup n ∷ []
