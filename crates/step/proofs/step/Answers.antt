use mathlib.Core.Path.{sym, ◌∙◌}
use Rattle.calls.specs.Outcome.{call_with}
use Rattle.calls.proofs.Performed.{store_sound}
use Rattle.step.proofs.Outcomes.{unsound_steps}
use Rattle.step.proofs.step.Goals as goal

pub settings-settings-requires : goal.settings-settings-requires
settings-settings-requires c =
    store_sound _ (sym c.is_sound.ensures ∙ c.if-is_sound.true)

pub returns : goal.returns
returns c =
    let s = c.args in
    unsound_steps (call_with s.kind s.a s.b s.c s.«data».now s.blank.now s.area.now) s.store.now
    (sym c.is_sound.ensures ∙ c.if-is_sound.false)
