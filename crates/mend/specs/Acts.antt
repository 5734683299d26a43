-- What a place does for a key.
use Rattle.std.specs.Prelude.{◌≡◌, true, false, ℕ}
use Rattle.rules.specs.declared.settings.Settings.{Settings}
use Rattle.rules.specs.Chunks.{held}
use Rattle.rules.specs.State.{State}
use Rattle.rules.specs.Derived.{holder}
use Rattle.holders.specs.Members.{LiesAt}
use Rattle.mend.specs.declared.act.Act.{Act}
use Rattle.mend.specs.declared.act.Act.TheVariants.{Nothing, Save, Bring}
use Rattle.mend.specs.Keys.{wants}

-- brick `id` is to have the chunk, and lacks it; it lies in this row at this place
pub record Lacking (c : Settings) (s : State) (id key place row : ℕ) : Type 0 where
  pub wanted : wants s id key ≡ true
  pub missing : held (s.bricks.log id) key ≡ false
  pub from : LiesAt c s (holder s key) key place row

abbrev pub ActOf : Settings → State → ℕ → ℕ → Act → Type 0
ActOf c s id key (Nothing) = wants s id key ≡ false
ActOf c s id key (Save) = (wants s id key ≡ true) × (held (s.bricks.log id) key ≡ true)
ActOf c s id key (Bring at) = Lacking c s id key at.place at.row
