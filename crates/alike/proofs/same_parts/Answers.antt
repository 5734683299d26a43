use mathlib.Core.Path.{sym, ◌∙◌}
use borrow.Author.Tests.{not-true, not-false}
use Rattle.lists.proofs.Tests.{no_first, no_second}
use Rattle.alike.proofs.Differences.{other_view, other_members, same_else}
use Rattle.alike.proofs.same_parts.Goals as goal

pub returns-then-view : goal.returns-then-view
returns-then-view c =
    sym (other_view c.args.settings c.args.one.now c.args.other.now c.requires
    (λ e. c.if-view.true (c.view.ensures ∙ e ∙ sym c.view-2.ensures)))

pub returns-then-not-members_in : goal.returns-then-not-members_in
returns-then-not-members_in c =
    sym (other_members c.args.settings c.args.one.now c.args.other.now c.requires
    (no_first _ _ (sym c.members_in.ensures ∙ not-true _ c.if-not-members_in.true-raw)))

pub members_in-requires-2 : goal.members_in-requires-2
members_in-requires-2 c =
    record { first = c.requires.second; second = c.requires.first }

pub returns-then-not-members_in-2 : goal.returns-then-not-members_in-2
returns-then-not-members_in-2 c =
    sym (other_members c.args.settings c.args.one.now c.args.other.now c.requires
    (no_second _ _ (sym c.members_in-2.ensures ∙ not-true _ c.if-not-members_in-2.true-raw)))

pub returns : goal.returns
returns c =
    c.same_memories.ensures
    ∙ same_else c.args.settings c.args.one.now c.args.other.now c.requires
    (sym c.view.ensures ∙ c.if-view.false ∙ c.view-2.ensures)
    (sym c.members_in.ensures ∙ not-false _ c.if-not-members_in.false-raw)
    (sym c.members_in-2.ensures ∙ not-false _ c.if-not-members_in-2.false-raw)
