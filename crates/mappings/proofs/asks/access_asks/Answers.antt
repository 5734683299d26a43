use Rattle.std.proofs.lemmas.Result.{err_from_is_err_and}
use mathlib.Core.Path.{refl, sym, ◌∙◌}
use borrow.Author.Tests.{not-true, not-false}
use Rattle.lists.specs.Tests.{◌and◌}
use Rattle.rules.proofs.Refusals.{refuses_there}
use Rattle.rules.proofs.Questions.{first_yes, first_stop, none_asked, goes_on}
use Rattle.lent.specs.Asks.{block_asks}
use Rattle.lent.proofs.Proxies.{block_yes}
use Rattle.mappings.proofs.asks.access_asks.Goals as goal

pub returns-in_err-block_asks : goal.returns-in_err-block_asks
returns-in_err-block_asks c =
    let p = err_from_is_err_and c.from_residual.result c.from_residual.ensures.1 in
    rw (p.1, p.2) (refuses_there (block_asks c.args.proxy c.args.block) _ _ c.in_err-block_asks.ensures)

pub knows_view-requires : goal.knows_view-requires
knows_view-requires c =
    (c.requires, (block_yes c.args.proxy c.args.block (sym c.in_ok-block_asks.ensures)).proxy)

pub returns-then-not-knows_view : goal.returns-then-not-knows_view
unfolding ◌and◌
returns-then-not-knows_view c =
    goes_on (block_asks c.args.proxy c.args.block) _ refl c.in_ok-block_asks.ensures refl
    (sym (first_stop 5 _ (sym c.knows_view.ensures ∙ not-true _ c.if-not-knows_view.true-raw)))

pub returns-then-primary_up : goal.returns-then-primary_up
unfolding ◌and◌
returns-then-primary_up c =
    goes_on (block_asks c.args.proxy c.args.block) _ refl c.in_ok-block_asks.ensures refl
    (sym (first_yes 5 _ (sym c.knows_view.ensures ∙ not-false _ c.if-not-knows_view.false-raw) ∙ first_yes 6 _ (sym c.primary_up.ensures ∙ c.if-primary_up.true)
    ∙ none_asked))

pub returns-else-primary_up : goal.returns-else-primary_up
unfolding ◌and◌
returns-else-primary_up c =
    goes_on (block_asks c.args.proxy c.args.block) _ refl c.in_ok-block_asks.ensures refl
    (sym (first_yes 5 _ (sym c.knows_view.ensures ∙ not-false _ c.if-not-knows_view.false-raw) ∙ first_stop 6 _ (sym c.primary_up.ensures ∙ c.if-primary_up.false)))
