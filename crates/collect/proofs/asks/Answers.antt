use mathlib.Core.Path.{refl}
use Rattle.std.proofs.lemmas.Result.{err_from_is_err_and}
use Rattle.lists.specs.Tests.{◌and◌}
use Rattle.words.specs.Words.{words}
use Rattle.rules.proofs.Questions.{goes_on}
use Rattle.rules.proofs.Refusals.{refuses_there}
use Rattle.layout.specs.Store.{decode}
use Rattle.lent.specs.Asks.{place_asks}
use Rattle.collect.proofs.asks.Goals as goal

pub returns-in_err-asks : goal.returns-in_err-asks
returns-in_err-asks c =
    let p = err_from_is_err_and c.from_residual.result c.from_residual.ensures.1 in
    rw (p.1, p.2) (refuses_there (place_asks (decode (words c.args.store.now)) c.args.place) _ _ c.in_err-asks.ensures)

pub returns : goal.returns
unfolding ◌and◌
returns c =
    goes_on (place_asks (decode (words c.args.store.now)) c.args.place) _ refl c.in_ok-asks.ensures refl
    c.idle_asks.ensures
