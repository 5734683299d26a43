use Rattle.std.proofs.lemmas.Result.{err_from_is_err_and}
use mathlib.Core.Path.{sym}
use Rattle.words.specs.Words.{words}
use Rattle.rules.specs.Event.{Event}
use Rattle.rules.specs.Step.{rule}
use Rattle.layout.specs.Store.{decode}
use Rattle.lent.proofs.Performs.{refused, accepted}
use Rattle.maps.proofs.Mapping.{map_proxy, mappable}
use Rattle.maps.proofs.map.map.Goals as goal

pub returns-in_err-asks : goal.returns-in_err-asks
unfolding rule
returns-in_err-asks c =
    let p = err_from_is_err_and c.from_residual.result c.from_residual.ensures.1 in
    rw (p.1, p.2) (refused (Event.map c.args.proxy c.args.block) (words c.args.store.now) c.requires.sound _ c.in_err-asks.ensures)

pub enter-requires : goal.enter-requires
enter-requires c =
    let s = decode (words c.args.store.now) in
    let yes = sym c.in_ok-asks.ensures in
    (c.requires, map_proxy s c.args.proxy c.args.block yes, mappable s c.args.proxy c.args.block yes)

pub returns : goal.returns
unfolding rule
returns c =
    let done = c.enter in
    accepted (Event.map c.args.proxy c.args.block) (words c.args.store.now) (words done.new.store) (sym c.in_ok-asks.ensures) done.ensures
