use Rattle.std.proofs.lemmas.Result.{err_from_is_err_and}
use mathlib.Core.Path.{refl, sym, ◌∙◌}
use borrow.Author.Tests.{not-true, not-false}
use Rattle.lists.specs.Tests.{◌and◌}
use Rattle.words.specs.Words.{words}
use Rattle.rules.proofs.Refusals.{refuses_there}
use Rattle.rules.proofs.Questions.{first_yes, first_stop, goes_on}
use Rattle.layout.specs.Store.{decode}
use Rattle.mappings.specs.Asks.{access_asks}
use Rattle.mappings.proofs.asks.served_asks.Goals as goal

pub returns-in_err-access_asks : goal.returns-in_err-access_asks
returns-in_err-access_asks c =
    let p = err_from_is_err_and c.from_residual.result c.from_residual.ensures.1 in
    rw (p.1, p.2) (refuses_there (access_asks (decode (words c.args.store.now)) c.args.proxy c.args.block) _ _ c.in_err-access_asks.ensures)

pub returns-then-not-is_ready : goal.returns-then-not-is_ready
unfolding ◌and◌
returns-then-not-is_ready c =
    goes_on (access_asks (decode (words c.args.store.now)) c.args.proxy c.args.block) _ refl c.in_ok-access_asks.ensures refl
    (sym (first_stop 7 _ (sym c.is_ready.ensures ∙ not-true _ c.if-not-is_ready.true-raw)))

pub returns : goal.returns
unfolding ◌and◌
returns c =
    goes_on (access_asks (decode (words c.args.store.now)) c.args.proxy c.args.block) _ refl c.in_ok-access_asks.ensures refl
    (c.settled_asks.ensures ∙ sym (first_yes 7 _ (sym c.is_ready.ensures ∙ not-false _ c.if-not-is_ready.false-raw)))
