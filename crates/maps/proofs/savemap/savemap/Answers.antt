use Rattle.std.proofs.lemmas.Result.{err_from_is_err_and}
use mathlib.Core.Path.{sym}
use Rattle.words.specs.Words.{words}
use Rattle.rules.specs.Event.{Event}
use Rattle.rules.specs.Maps.{savemap_effect}
use Rattle.rules.specs.Step.{rule}
use Rattle.layout.specs.Store.{decode}
use Rattle.lent.proofs.LentPlace.{LentPlace, lent_place, part_filled, part_brick, part_changed}
use Rattle.lent.proofs.Performs.{refused, accepted}
use Rattle.lent.proofs.Places.{UpPlace, place_yes}
use Rattle.maps.proofs.Saving.{saved_place}
use Rattle.maps.proofs.savemap.savemap.Goals as goal
use Rattle.maps.proofs.savemap.savemap.Goals.{After-span_of-from}

-- the place is there, and its bytes are known
stands : (c : After-span_of-from) → UpPlace c.args.settings (decode (words c.args.store.now)) c.args.place
stands c = place_yes c.args.settings c.args.store.now c.requires c.args.place (sym c.in_ok-asks.ensures)

lent : (c : After-span_of-from) → LentPlace c.args.store.now c.args.settings c.args.place c.span_of-from.result.from c.span_of-from.result.to
lent c = lent_place c.requires c.span_of-from.ensures (stands c).inside

pub returns-in_err-asks : goal.returns-in_err-asks
unfolding rule
returns-in_err-asks c =
    let p = err_from_is_err_and c.from_residual.result c.from_residual.ensures.1 in
    rw (p.1, p.2) (refused (Event.savemap c.args.place) (words c.args.store.now) c.requires.sound _ c.in_err-asks.ensures)

pub span_of-from-requires : goal.span_of-from-requires
span_of-from-requires c =
    (c.requires.limits, (place_yes c.args.settings c.args.store.now c.requires c.args.place (sym c.in_ok-asks.ensures)).inside)

pub save_place-requires : goal.save_place-requires
save_place-requires c =
    let at = (goal.at.save_place-requires c).After-span_of-from in
    part_brick (lent at) (stands at).filled

pub returns : goal.returns
unfolding rule savemap_effect
returns c =
    let at = (goal.at.returns c).After-span_of-from in
    let place = lent at in
    let save = c.save_place in
    accepted (Event.savemap c.args.place) (words c.args.store.now) _ (sym c.in_ok-asks.ensures)
    (part_changed place save.new.part (saved_place _ c.args.place (part_filled place (stands at).filled)) save.auto.part save.ensures)
