-- copy: what its functions find, and whether there is room.
use Rattle.std.specs.Prelude.{◌≡◌, Bool, true, false, ℕ, ltb, length, Option, Some, None}
use Rattle.lists.specs.Tests.{◌or◌}
use Rattle.rules.specs.declared.settings.Settings.{Settings}
use Rattle.rules.specs.Chunks.{held}
use Rattle.rules.specs.State.{State}
use Rattle.rules.specs.Writes.{target, nothing_to_copy}
use Rattle.lent.specs.Places.{Stands}

-- ---- what is found
-- a brick stands at the place, and its log does not hold the chunk
pub record Lacking (c : Settings) (s : State) (id key place : ℕ) : Type 0 where
  pub at : Stands c s id place
  pub lacks : held (s.bricks.log id) key ≡ false

abbrev pub CopiedTo : Settings → State → ℕ → Option ℕ → Type 0
CopiedTo c s key (Some place) = Lacking c s (target s key) key place
CopiedTo c s key (None) = nothing_to_copy s key ≡ true

-- nothing to copy, or room for it
abbrev pub has_room : State → ℕ → Bool
has_room s key = nothing_to_copy s key or ltb (length (s.bricks.log (target s key))) s.settings.chunks
