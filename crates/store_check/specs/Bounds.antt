-- The bounds that keys are held against.
use Rattle.std.specs.Prelude.{◌≡◌, List, Bool, cond, ℕ, ◌+◌, ◌*◌, ◌≤◌, ltb, leb, length, get_or, set}
use Rattle.lists.specs.Tests.{◌and◌}
use Rattle.rules.specs.declared.settings.Settings.{Settings}
use Rattle.rules.specs.Limits.{max_id}
use Rattle.rules.specs.Numbers.{sequences}
use Rattle.rules.specs.Limits.{Limits}
use Rattle.layout.specs.Places.{by_id}
use Rattle.layout.specs.Layout.{store_words, place_at, next_at}
use Rattle.row_checks.specs.Rows.{ids}
use Rattle.store_check.specs.Places.{id_at}

-- an id given already
unfoldable pub was_given : ℕ → ℕ → Bool
was_given given i = ltb 0 i and leb i given

unfoldable pub with_bound : ℕ → ℕ → ℕ → List ℕ → List ℕ
with_bound given id next l = cond (was_given given id) (set l id next) l

-- the next of the brick at a place
abbrev pub next_in : Settings → List ℕ → ℕ → ℕ
next_in c ws p = get_or ws (place_at c p + next_at) 0

pub record GivenFit (bounds given : ℕ) : Type 0 where
  pub known : bounds ≡ ids
  pub few : given ≤ max_id

pub record Given (given : ℕ) (old new : List ℕ) : Type 0 where
  pub long : length new ≡ length old
  pub each : (i : ℕ) → get_or new i 0 ≡ cond (was_given given i) sequences (get_or old i 0)

pub record FillFit (c : Settings) (given bounds bytes : ℕ) : Type 0 where
  pub known : bounds ≡ ids
  pub few : given ≤ max_id
  pub small : Limits c
  pub size : bytes ≡ 8 * store_words c

-- of the first n places
pub record Filled (c : Settings) (given : ℕ) (ws : List ℕ) (n : ℕ) (old new : List ℕ) : Type 0 where
  pub long : length new ≡ length old
  pub each : (i : ℕ) → get_or new i 0 ≡ cond (was_given given i) (by_id n (id_at c ws) (get_or old i 0) (next_in c ws) i) (get_or old i 0)
