use mathlib.Core.Path.{sym}
use Rattle.std.proofs.lemmas.Result.{err_from_is_err_and}
use Rattle.words.specs.Words.{words}
use Rattle.rules.specs.Event.{Event}
use Rattle.rules.specs.Step.{rule}
use Rattle.lent.proofs.Performs.{refused, accepted}
use Rattle.recovery.proofs.Questions.{fetch_yes}
use Rattle.recovery.proofs.fetch.fetch.Goals as goal

pub returns-in_err-asks : goal.returns-in_err-asks
unfolding rule
returns-in_err-asks c =
    let p = err_from_is_err_and c.from_residual.result c.from_residual.ensures.1 in
    rw (p.1, p.2) (refused (Event.fetch c.args.bucket) (words c.args.store.now) c.requires.sound _ c.in_err-asks.ensures)

pub replace-requires : goal.replace-requires
replace-requires c =
    let y = fetch_yes c.args.settings c.args.store.now c.requires c.args.bucket (sym c.in_ok-asks.ensures) in
    (c.requires, y.0, y.1)

pub returns : goal.returns
unfolding rule
returns c =
    accepted (Event.fetch c.args.bucket) (words c.args.store.now) _ (sym c.in_ok-asks.ensures)
    c.replace.ensures
