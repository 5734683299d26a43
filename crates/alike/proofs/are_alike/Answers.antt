use mathlib.Core.Path.{sym, ap₂, ◌∙◌}
use Rattle.rules.specs.Alike.{same_settings}
use Rattle.lent.proofs.Stores.{settings_are}
use Rattle.alike.proofs.Differences.{other_settings, two_stores, derived_settings}
use Rattle.alike.proofs.are_alike.Goals as goal

pub same_parts-requires : goal.same_parts-requires
same_parts-requires c =
    two_stores _ _ c.settings-settings.ensures c.settings.ensures
    (sym (derived_settings c.settings-settings.result c.settings.result) ∙ sym c.eq.ensures ∙ c.if-eq.true)

pub returns-else-eq : goal.returns-else-eq
returns-else-eq c =
    c.if-eq.false
    ∙ sym (other_settings _ _ (ap₂ same_settings (settings_are _ _ c.settings-settings.ensures) (settings_are _ _ c.settings.ensures)
    ∙ sym (derived_settings c.settings-settings.result c.settings.result) ∙ sym c.eq.ensures ∙ c.if-eq.false))
