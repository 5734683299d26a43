-- Members in the order of their ids, and a brick that code has chosen, by its place.
use Rattle.std.specs.Prelude.{◌≡◌, List, [], ◌∷◌, ◌++◌, Bool, true, false, ℕ, suc, ◌≤◌, ◌<◌, eqb, Option, Some, None}
use Rattle.lists.specs.Tests.{◌and◌, only, within}
use Rattle.rules.specs.declared.settings.Settings.{Settings}
use Rattle.rules.specs.Limits.{max_id}
use Rattle.rules.specs.Chunks.{saved_in}
use Rattle.rules.specs.State.{State}
use Rattle.rules.specs.Derived.{members}
use Rattle.lent.specs.Places.{Stands}
use Rattle.chunk_log.specs.Answers.{FoundAt}
use Rattle.holders.specs.declared.Location.{Location}

-- ids are below this
abbrev pub ids : ℕ
ids = suc max_id

-- the members with ids from one number to below another, ascending
abbrev pub between : State → ℕ → ℕ → List ℕ
between s from to = only (within from to) (members s)

-- the place has a member with such an id
abbrev pub member_within : State → ℕ → ℕ → ℕ → Bool
member_within s from to place = within from to (s.ids place) and s.bricks.member (s.ids place)

-- the first of these members stands at a place
pub record NextAt (settings : Settings) (s : State) (from to place : ℕ) : Type 0 where
  pub inside : place < settings.places
  pub some : 0 < s.ids place
  pub low : from ≤ s.ids place
  pub high : s.ids place < to
  pub member : s.bricks.member (s.ids place) ≡ true
  pub list : between s from to ≡ s.ids place ∷ between s (suc (s.ids place)) to

abbrev pub NextIn : Settings → State → ℕ → ℕ → Option ℕ → Type 0
NextIn settings s from to (Some place) = NextAt settings s from to place
NextIn settings s from to (None) = between s from to ≡ []

-- the place of the brick with an id; id 0 is none
abbrev pub Chosen : Settings → State → ℕ → Option ℕ → Type 0
Chosen settings s id (Some place) = Stands settings s id place
Chosen settings s id (None) = id ≡ 0

-- the brick with an id stands at the place, and the chunk lies in this row of its log
pub record LiesAt (settings : Settings) (s : State) (id key place row : ℕ) : Type 0 where
  pub stands : Stands settings s id place
  pub found : FoundAt (s.bricks.log id) key row

abbrev pub LiesWith : Settings → State → ℕ → ℕ → Option Location → Type 0
LiesWith settings s id key (Some at) = LiesAt settings s id key at.place at.row
LiesWith settings s id key (None) = id ≡ 0

-- the place has a member that has the chunk saved
abbrev pub member_saved : State → ℕ → ℕ → Bool
member_saved s key place = s.bricks.member (s.ids place) and saved_in (s.bricks.log (s.ids place)) key

-- the first such place from one on
pub record NextSavedAt (settings : Settings) (s : State) (key from place : ℕ) : Type 0 where
  pub inside : place < settings.places
  pub saved : member_saved s key place ≡ true
  pub low : from ≤ place
  pub before : (p : ℕ) → p < place → from ≤ p → member_saved s key p ≡ false

abbrev pub NextSaved : Settings → State → ℕ → ℕ → Option ℕ → Type 0
NextSaved settings s key from (Some place) = NextSavedAt settings s key from place
NextSaved settings s key from (None) = (p : ℕ) → p < settings.places → from ≤ p → member_saved s key p ≡ false

-- the members from an id upward, and after them those from the lowest id to below the home id
abbrev pub round : State → ℕ → ℕ → List ℕ
round s from home = between s from ids ++ between s 0 home

unfoldable pub begins_with : ℕ → List ℕ → Bool
begins_with id [] = false
begins_with id (first ∷ rest) = eqb first id
