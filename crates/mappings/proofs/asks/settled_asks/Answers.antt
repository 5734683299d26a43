use mathlib.Core.Path.{sym, ap, ◌∙◌}
use mathlib.Core.Bool.{not}
use Rattle.rules.proofs.Questions.{first_yes, first_stop, none_asked}
use Rattle.mappings.proofs.asks.settled_asks.Goals as goal

pub returns-then-pending : goal.returns-then-pending
returns-then-pending c = sym (first_stop 8 _ (ap not (sym c.pending.ensures ∙ c.if-pending.true)))

pub returns-then-waits : goal.returns-then-waits
returns-then-waits c =
    sym (first_yes 8 _ (ap not (sym c.pending.ensures ∙ c.if-pending.false)) ∙ first_stop 8 _ (ap not (sym c.waits.ensures ∙ c.if-waits.true)))

pub returns-else-waits : goal.returns-else-waits
returns-else-waits c =
    sym (first_yes 8 _ (ap not (sym c.pending.ensures ∙ c.if-pending.false)) ∙ first_yes 8 _ (ap not (sym c.waits.ensures ∙ c.if-waits.false))
    ∙ none_asked)
