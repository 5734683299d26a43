use Rattle.std.proofs.lemmas.Result.{err_from_is_err_and}
use mathlib.Core.Path.{sym}
use Rattle.words.specs.Words.{words}
use Rattle.rules.specs.Event.{Event}
use Rattle.rules.specs.Step.{rule}
use Rattle.rules.proofs.Questions.{front_none}
use Rattle.lent.specs.Asks.{block_asks}
use Rattle.lent.proofs.Performs.{refused, accepted}
use Rattle.lent.proofs.Proxies.{block_yes}
use Rattle.proxies.proofs.abandon.Goals as goal

pub returns-in_err-asks : goal.returns-in_err-asks
unfolding rule
returns-in_err-asks c =
    let p = err_from_is_err_and c.from_residual.result c.from_residual.ensures.1 in
    rw (p.1, p.2) (refused (Event.abandon c.args.proxy c.args.block) (words c.args.store.now) c.requires.sound _ c.in_err-asks.ensures)

pub remove_item-requires : goal.remove_item-requires
remove_item-requires c =
    (c.requires, (block_yes c.args.proxy c.args.block (front_none (block_asks c.args.proxy c.args.block) _ (sym c.in_ok-asks.ensures))).proxy)

pub returns : goal.returns
unfolding rule
returns c =
    let done = c.remove_item in
    accepted (Event.abandon c.args.proxy c.args.block) (words c.args.store.now) (words done.new.store) (sym c.in_ok-asks.ensures) done.ensures
