use mathlib.Core.Path.{refl, sym}
use Rattle.std.proofs.lemmas.Result.{err_from_is_err_and}
use Rattle.lists.specs.Tests.{◌and◌}
use Rattle.words.specs.Words.{words}
use Rattle.rules.specs.Event.{Event}
use Rattle.rules.specs.Writes.{copy_asks}
use Rattle.rules.specs.Step.{rule}
use Rattle.rules.proofs.Questions.{all_yes}
use Rattle.layout.specs.Store.{decode}
use Rattle.lent.proofs.Performs.{refused, accepted}
use Rattle.chunk_copy.proofs.copy.Goals as goal

pub returns-in_err-asks : goal.returns-in_err-asks
unfolding rule
returns-in_err-asks c =
    let p = err_from_is_err_and c.from_residual.result c.from_residual.ensures.1 in
    rw (p.1, p.2) (refused (Event.copy c.args.key) (words c.args.store.now) c.requires.sound _ c.in_err-asks.ensures)

pub effect-requires : goal.effect-requires
unfolding ◌and◌
effect-requires c = (c.requires, all_yes (copy_asks (decode (words c.args.store.now)) c.args.key) refl (sym c.in_ok-asks.ensures))

pub returns : goal.returns
unfolding rule
returns c = accepted (Event.copy c.args.key) (words c.args.store.now) _ (sym c.in_ok-asks.ensures) c.effect.ensures
