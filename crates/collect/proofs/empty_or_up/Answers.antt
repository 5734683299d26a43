use mathlib.Core.Path.{sym, ◌∙◌}
use borrow.Author.Tests.{eq-eqb, ne_eqb}
use Rattle.lists.proofs.Tests.{or_l, or_no}
use Rattle.collect.proofs.empty_or_up.Goals as goal

pub returns-then-id-eq0 : goal.returns-then-id-eq0
returns-then-id-eq0 c =
    eq-eqb _ 0 c.if-id-eq0.true ∙ sym (or_l _ _ (eq-eqb _ 0 (sym c.id.ensures ∙ c.if-id-eq0.true)))

pub returns-else-id-eq0 : goal.returns-else-id-eq0
returns-else-id-eq0 c =
    c.up_member.ensures ∙ sym (or_no _ _ (ne_eqb _ 0 (λ z. c.if-id-eq0.false (c.id.ensures ∙ z))))
