use Rattle.std.proofs.lemmas.Result.{err_from_is_err_and}
use mathlib.Core.Path.{refl, sym, ◌∙◌}
use Prim.Native.Nat.{◌<◌}
use Rattle.lists.specs.Tests.{◌and◌}
use Rattle.words.specs.Words.{words}
use Rattle.rules.specs.Limits.{proxies}
use Rattle.rules.proofs.Refusals.{refuses_there}
use Rattle.rules.proofs.Questions.{first_yes, first_stop, none_asked, goes_on, front_none}
use Rattle.layout.specs.Store.{decode}
use Rattle.mappings.specs.Asks.{access_asks, served_asks}
use Rattle.mappings.proofs.Asking.{access_yes}
use Rattle.maps.proofs.done.asks.Goals as goal
use Rattle.maps.proofs.done.asks.Goals.{In_ok-served_asks}

is_proxy : (c : In_ok-served_asks) → c.args.proxy < proxies
is_proxy c =
    let s = decode (words c.args.store.now) in
    (access_yes s c.args.proxy c.args.block (front_none (access_asks s c.args.proxy c.args.block) _ (sym c.in_ok-served_asks.ensures))).block.proxy

pub returns-in_err-served_asks : goal.returns-in_err-served_asks
returns-in_err-served_asks c =
    let p = err_from_is_err_and c.from_residual.result c.from_residual.ensures.1 in
    rw (p.1, p.2) (refuses_there (served_asks (decode (words c.args.store.now)) c.args.proxy c.args.block) _ _ c.in_err-served_asks.ensures)

pub has_item-requires : goal.has_item-requires
has_item-requires c = (c.requires, is_proxy (goal.at.has_item-requires c).In_ok-served_asks)

pub returns-then-not-has_item : goal.returns-then-not-has_item
unfolding ◌and◌
returns-then-not-has_item c =
    goes_on (served_asks (decode (words c.args.store.now)) c.args.proxy c.args.block) _ refl c.in_ok-served_asks.ensures refl
    (sym (first_stop 9 _ (sym c.has_item.ensures ∙ c.if-not-has_item.true)))

pub item-key-requires : goal.item-key-requires
item-key-requires c = (c.requires, is_proxy (goal.at.item-key-requires c).In_ok-served_asks)

pub returns-then-eq : goal.returns-then-eq
unfolding ◌and◌
returns-then-eq c =
    let same = rw (c.mapped.ensures, c.item-key.ensures) at c.eq.ensures in
    goes_on (served_asks (decode (words c.args.store.now)) c.args.proxy c.args.block) _ refl c.in_ok-served_asks.ensures refl
    (sym (first_yes 9 _ (sym c.has_item.ensures ∙ c.if-not-has_item.false) ∙ first_yes 15 _ (sym same ∙ c.if-eq.true) ∙ none_asked))

pub returns-else-eq : goal.returns-else-eq
unfolding ◌and◌
returns-else-eq c =
    let same = rw (c.mapped.ensures, c.item-key.ensures) at c.eq.ensures in
    goes_on (served_asks (decode (words c.args.store.now)) c.args.proxy c.args.block) _ refl c.in_ok-served_asks.ensures refl
    (sym (first_yes 9 _ (sym c.has_item.ensures ∙ c.if-not-has_item.false) ∙ first_stop 15 _ (sym same ∙ c.if-eq.false)))
