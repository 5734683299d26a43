use mathlib.Core.Path.{sym}
use Rattle.std.proofs.lemmas.Result.{err_from_is_err_and}
use Rattle.words.specs.Words.{words}
use Rattle.rules.specs.Event.{Event}
use Rattle.rules.specs.Step.{rule}
use Rattle.lent.proofs.Performs.{refused, accepted}
use Rattle.views.proofs.Questions.{view_yes}
use Rattle.views.proofs.view.view.Goals as goal

pub returns-in_err-asks : goal.returns-in_err-asks
unfolding rule
returns-in_err-asks c =
    let p = err_from_is_err_and c.from_residual.result c.from_residual.ensures.1 in
    rw (p.1, p.2) (refused Event.view (words c.args.store.now) c.requires.sound _ c.in_err-asks.ensures)

pub begin-requires : goal.begin-requires
begin-requires c = (c.requires, view_yes c.args.settings c.args.store.now c.requires (sym c.in_ok-asks.ensures))

pub returns : goal.returns
unfolding rule
returns c = accepted Event.view (words c.args.store.now) _ (sym c.in_ok-asks.ensures) c.begin.ensures
