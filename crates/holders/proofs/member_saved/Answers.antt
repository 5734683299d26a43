use mathlib.Core.Path.{sym, ◌∙◌}
use Rattle.lists.proofs.Tests.{no_first, yes_first}
use Rattle.holders.proofs.Saved.{member_some}
use Rattle.holders.proofs.member_saved.Goals as goal

pub saved_at-requires : goal.saved_at-requires
saved_at-requires c =
    (c.requires.0, c.requires.1, member_some _ c.args.store.now c.requires.0 c.args.place (sym c.is_member.ensures ∙ c.if-is_member.true))

pub returns-then-is_member : goal.returns-then-is_member
returns-then-is_member c =
    c.saved_at.ensures ∙ sym (yes_first _ _ (sym c.is_member.ensures ∙ c.if-is_member.true))

pub returns-else-is_member : goal.returns-else-is_member
returns-else-is_member c = c.if-is_member.false ∙ sym (no_first _ _ (sym c.is_member.ensures ∙ c.if-is_member.false))
