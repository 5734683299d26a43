use mathlib.Core.Path.{sym, ◌∙◌}
use native.Mathlib.Omega.{arith}
use borrow.Author.Tests.{lt-ltb, le-ltb}
use Rattle.words.specs.Words.{words}
use Rattle.rules.specs.Event.{Event}
use Rattle.rules.specs.Limits.{proxies}
use Rattle.rules.specs.Step.{rule}
use Rattle.rules.proofs.Questions.{first_yes, first_stop, none_asked}
use Rattle.lent.proofs.Performs.{refused, accepted}
use Rattle.proxies.proofs.learn.Goals as goal

pub returns-then-proxy : goal.returns-then-proxy
unfolding rule
returns-then-proxy c =
    refused (Event.learn c.args.proxy) (words c.args.store.now) c.requires.sound _ (sym (first_stop 3 _ (le-ltb c.args.proxy proxies c.if-proxy.true)))

pub returns : goal.returns
unfolding rule
returns c =
    let done = c.take_view in
    accepted (Event.learn c.args.proxy) (words c.args.store.now) (words done.new.store)
    (first_yes 3 _ (lt-ltb c.args.proxy proxies (omega arith)) ∙ none_asked) done.ensures
