use mathlib.Core.Path.{sym, ◌∙◌}
use Rattle.rules.proofs.Questions.{first_yes, first_stop, none_asked}
use Rattle.recovery.proofs.ready.fetched_asks.Goals as goal
use Rattle.recovery.proofs.ready.fetched_asks.Goals.{else-agreed-via-then-agreed+else-not-agreed, else-agreed-via-else-agreed}

pub returns-then-not-agreed : goal.returns-then-not-agreed
returns-then-not-agreed c = sym (first_yes 13 _ c.if-agreed.true ∙ first_yes 13 _ c.if-not-agreed.true ∙ none_asked)

pub returns-else-agreed : goal.returns-else-agreed
returns-else-agreed c =
    elim c.else-agreed.branch [
      | else-agreed-via-then-agreed+else-not-agreed w ↦ sym (first_yes 13 _ w.if-agreed.true ∙ first_stop 13 _ w.if-not-agreed.false)
      | else-agreed-via-else-agreed w ↦ sym (first_stop 13 _ w.if-agreed.false)
    ]
