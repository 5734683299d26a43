-- The up bricks in the order of their ids.
use Rattle.std.specs.Prelude.{◌≡◌, List, [], ◌∷◌, Option, Some, None, Bool, ℕ, suc, ◌≤◌, ◌<◌}
use Rattle.lists.specs.Tests.{◌and◌, only, within}
use Rattle.rules.specs.Limits.{max_id}
use Rattle.rules.specs.State.{State}
use Rattle.rules.specs.Pairs.{ids_of}
use Rattle.rules.specs.Derived.{is_up}

-- ids are below this
abbrev pub ids : ℕ
ids = suc max_id

-- the place has an up brick with such an id
abbrev pub up_within : State → ℕ → ℕ → ℕ → Bool
up_within s from to place = within from to (s.ids place) and is_up s place

-- the up bricks with ids from a number on, ascending
abbrev pub up_from : State → ℕ → List ℕ
up_from s from = only (within from ids) (ids_of s.given s.bricks.up)

-- the first of them, if there is one
abbrev pub NextUp : State → ℕ → Option ℕ → Type 0
NextUp s from None = up_from s from ≡ []
NextUp s from (Some id) = (from ≤ id) × (id < ids) × (up_from s from ≡ id ∷ up_from s (suc id))
