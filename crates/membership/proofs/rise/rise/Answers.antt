use mathlib.Core.Path.{sym}
use Prim.Native.Nat.{◌<◌}
use Rattle.std.proofs.lemmas.Result.{err_from_is_err_and}
use Rattle.words.specs.Words.{words}
use Rattle.rules.specs.Event.{Event}
use Rattle.rules.specs.Step.{rule}
use Rattle.layout.specs.Store.{decode}
use Rattle.lent.proofs.Performs.{refused, accepted}
use Rattle.lent.proofs.LentPlace.{LentPlace, lent_place, part_filled, part_brick, part_changed}
use Rattle.membership.proofs.Asked.{rise_yes}
use Rattle.membership.proofs.Places.{rise_changes}
use Rattle.membership.proofs.rise.rise.Goals as goal
use Rattle.membership.proofs.rise.rise.Goals.{After-span_of-from}

-- the place holds a brick, and its bytes are lent
lends : (c : After-span_of-from) → LentPlace c.args.store.now c.args.settings c.args.place c.span_of-from.result.from c.span_of-from.result.to
    × (0 < (decode (words c.args.store.now)).ids c.args.place)
lends c =
    let y = rise_yes c.args.settings c.args.store.now c.requires c.args.place (sym c.in_ok-asks.ensures) in
    (lent_place c.requires c.span_of-from.ensures y.inside, y.some)

pub returns-in_err-asks : goal.returns-in_err-asks
unfolding rule
returns-in_err-asks c =
    let p = err_from_is_err_and c.from_residual.result c.from_residual.ensures.1 in
    rw (p.1, p.2) (refused (Event.rise c.args.place) (words c.args.store.now) c.requires.sound _ c.in_err-asks.ensures)

pub span_of-from-requires : goal.span_of-from-requires
span_of-from-requires c = (c.requires.limits, (rise_yes c.args.settings c.args.store.now c.requires c.args.place (sym c.in_ok-asks.ensures)).inside)

pub rise_place-requires : goal.rise_place-requires
rise_place-requires c =
    let place = lends (goal.at.rise_place-requires c).After-span_of-from in part_brick place.0 place.1

pub returns : goal.returns
unfolding rule
returns c =
    let place = lends (goal.at.returns c).After-span_of-from in
    let changed = rise_changes (decode (words c.args.store.now)) c.args.place (part_filled place.0 place.1) in
    let done = c.rise_place in
    accepted (Event.rise c.args.place) (words c.args.store.now) _ (sym c.in_ok-asks.ensures)
    (part_changed place.0 done.new.part changed done.auto.part done.ensures)
