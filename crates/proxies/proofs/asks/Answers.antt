use Rattle.std.proofs.lemmas.Result.{err_from_is_err_and}
use mathlib.Core.Path.{refl, sym, ◌∙◌}
use Rattle.lists.specs.Tests.{◌and◌}
use Rattle.rules.proofs.Refusals.{refuses_there}
use Rattle.rules.proofs.Questions.{first_yes, first_stop, none_asked, goes_on}
use Rattle.lent.specs.Asks.{block_asks}
use Rattle.lent.proofs.Proxies.{block_yes}
use Rattle.proxies.proofs.asks.Goals as goal

pub returns-in_err-block_asks : goal.returns-in_err-block_asks
returns-in_err-block_asks c =
    let p = err_from_is_err_and c.from_residual.result c.from_residual.ensures.1 in
    rw (p.1, p.2) (refuses_there (block_asks c.args.proxy c.args.block) _ _ c.in_err-block_asks.ensures)

pub has_item-requires : goal.has_item-requires
has_item-requires c = (c.requires, (block_yes c.args.proxy c.args.block (sym c.in_ok-block_asks.ensures)).proxy)

pub returns-then-has_item : goal.returns-then-has_item
unfolding ◌and◌
returns-then-has_item c =
    goes_on (block_asks c.args.proxy c.args.block) _ refl c.in_ok-block_asks.ensures refl
    (sym (first_yes 9 _ (sym c.has_item.ensures ∙ c.if-has_item.true) ∙ none_asked))

pub returns-else-has_item : goal.returns-else-has_item
unfolding ◌and◌
returns-else-has_item c =
    goes_on (block_asks c.args.proxy c.args.block) _ refl c.in_ok-block_asks.ensures refl
    (sym (first_stop 9 _ (sym c.has_item.ensures ∙ c.if-has_item.false)))
