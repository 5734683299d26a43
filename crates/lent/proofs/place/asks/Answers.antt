use mathlib.Core.Path.{sym, ◌∙◌}
use native.Mathlib.Omega.{arith}
use Rattle.rules.proofs.Questions.{first_yes, first_stop, none_asked}
use Rattle.lent.proofs.Places.{no_place, is_place_yes}
use Rattle.lent.proofs.place.asks.Goals as goal

pub returns-then-settings-place : goal.returns-then-settings-place
returns-then-settings-place c =
    sym (first_stop 3 _ (no_place c.args.settings c.args.store.now c.requires c.args.place c.if-settings-place.true))

pub up_member-requires : goal.up_member-requires
up_member-requires c =
    (c.requires, omega arith)

pub returns-then-up_member : goal.returns-then-up_member
returns-then-up_member c =
    sym (first_yes 3 _ (is_place_yes c.args.settings c.args.store.now c.requires c.args.place (omega arith))
    ∙ first_yes 6 _ (sym c.up_member.ensures ∙ c.if-up_member.true) ∙ none_asked)

pub returns-else-up_member : goal.returns-else-up_member
returns-else-up_member c =
    sym (first_yes 3 _ (is_place_yes c.args.settings c.args.store.now c.requires c.args.place (omega arith))
    ∙ first_stop 6 _ (sym c.up_member.ensures ∙ c.if-up_member.false))
