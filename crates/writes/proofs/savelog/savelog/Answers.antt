use mathlib.Core.Path.{sym}
use Rattle.std.proofs.lemmas.Result.{err_from_is_err_and}
use Rattle.words.specs.Words.{words}
use Rattle.rules.specs.Chunks.{save_all}
use Rattle.rules.specs.Event.{Event}
use Rattle.rules.specs.Writes.{savelog_effect}
use Rattle.rules.specs.Step.{rule}
use Rattle.layout.specs.Store.{decode}
use Rattle.lent.proofs.Performs.{refused, accepted}
use Rattle.lent.proofs.Places.{UpPlace, place_yes}
use Rattle.lent.proofs.LentPlace.{LentPlace, lent_place, part_filled, part_brick, part_changed}
use Rattle.writes.proofs.Logs.{log_changes}
use Rattle.writes.proofs.savelog.savelog.Goals as goal
use Rattle.writes.proofs.savelog.savelog.Goals.{In_ok-asks, After-span_of-from}

-- the place is there, and its bytes are known
stands : (c : In_ok-asks) → UpPlace c.args.settings (decode (words c.args.store.now)) c.args.place
stands c = place_yes c.args.settings c.args.store.now c.requires c.args.place (sym c.in_ok-asks.ensures)

lent : (c : After-span_of-from) → LentPlace c.args.store.now c.args.settings c.args.place c.span_of-from.result.from c.span_of-from.result.to
lent c = lent_place c.requires c.span_of-from.ensures (stands c.before).inside

pub returns-in_err-asks : goal.returns-in_err-asks
unfolding rule
returns-in_err-asks c =
    let p = err_from_is_err_and c.from_residual.result c.from_residual.ensures.1 in
    rw (p.1, p.2) (refused (Event.savelog c.args.place) (words c.args.store.now) c.requires.sound _ c.in_err-asks.ensures)

pub span_of-from-requires : goal.span_of-from-requires
span_of-from-requires c = (c.requires.limits, (stands (goal.at.span_of-from-requires c).In_ok-asks).inside)

pub save_place-requires : goal.save_place-requires
save_place-requires c =
    let at = goal.at.save_place-requires c in
    part_brick (lent at.After-span_of-from) (stands at.In_ok-asks).filled

pub returns : goal.returns
unfolding rule savelog_effect
returns c =
    let at = goal.at.returns c in
    let place = lent at.After-span_of-from in
    let changed = log_changes (decode (words c.args.store.now)) c.args.place (part_filled place (stands at.In_ok-asks).filled) save_all in
    let done = c.save_place in
    accepted (Event.savelog c.args.place) (words c.args.store.now) _ (sym c.in_ok-asks.ensures)
    (part_changed place done.new.part changed done.auto.part done.ensures)
