use Rattle.std.proofs.lemmas.Result.{err_from_is_err_and}
use mathlib.Core.Path.{refl, sym}
use Rattle.lists.specs.Tests.{◌and◌}
use Rattle.words.specs.Words.{words}
use Rattle.rules.proofs.Refusals.{refuses_there}
use Rattle.rules.proofs.Questions.{goes_on}
use Rattle.layout.specs.Store.{decode}
use Rattle.mappings.specs.Asks.{access_asks, settled_asks}
use Rattle.mappings.proofs.Asking.{access_yes}
use Rattle.maps.proofs.map.asks.Goals as goal

pub returns-in_err-access_asks : goal.returns-in_err-access_asks
returns-in_err-access_asks c =
    let p = err_from_is_err_and c.from_residual.result c.from_residual.ensures.1 in
    rw (p.1, p.2) (refuses_there (access_asks (decode (words c.args.store.now)) c.args.proxy c.args.block) _ _ c.in_err-access_asks.ensures)

pub returns-in_err-settled_asks : goal.returns-in_err-settled_asks
unfolding ◌and◌
returns-in_err-settled_asks c =
    let p = err_from_is_err_and c.from_residual-in_err-settled_asks.result c.from_residual-in_err-settled_asks.ensures.1 in
    let s = decode (words c.args.store.now) in
    rw (p.1, p.2) (goes_on (access_asks s c.args.proxy c.args.block) _ refl c.in_ok-access_asks.ensures refl
    (refuses_there (settled_asks s c.args.block) _ _ c.in_err-settled_asks.ensures))

pub item_asks-requires : goal.item_asks-requires
item_asks-requires c =
    (c.requires, (access_yes (decode (words c.args.store.now)) c.args.proxy c.args.block (sym c.in_ok-access_asks.ensures)).block.proxy)

pub returns : goal.returns
unfolding ◌and◌
returns c =
    let s = decode (words c.args.store.now) in
    goes_on (access_asks s c.args.proxy c.args.block) _ refl c.in_ok-access_asks.ensures refl
    (goes_on (settled_asks s c.args.block) _ refl c.in_ok-settled_asks.ensures refl c.item_asks.ensures)
