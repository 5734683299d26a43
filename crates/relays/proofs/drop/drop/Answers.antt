use mathlib.Core.Path.{sym}
use mathlib.Core.List.{[]}
use Prim.Native.Nat.{◌<◌}
use native.Mathlib.Omega.{arith}
use lib.ListN.{length}
use borrow.Author.Tests.{lt-ltb, le-ltb}
use Rattle.words.specs.Words.{words}
use Rattle.rules.specs.Event.{Event}
use Rattle.rules.specs.Step.{rule}
use Rattle.rules.proofs.Questions.{first_stop}
use Rattle.layout.specs.Store.{decode}
use Rattle.lent.proofs.Performs.{refused, accepts}
use Rattle.relays.proofs.drop.drop.Goals as goal

pub returns-then-relay_count-index : goal.returns-then-relay_count-index
unfolding rule
returns-then-relay_count-index c =
    let s = decode (words c.args.store.now) in
    refused (Event.drop c.args.index) (words c.args.store.now) c.requires.sound _
    (sym (first_stop 3 [] (le-ltb c.args.index (length s.bag) (omega (arith, c.relay_count.ensures, c.if-relay_count-index.true)))))

pub returns : goal.returns
unfolding rule
returns c =
    let inside : c.args.index < length (decode (words c.args.store.now)).bag = omega (arith, c.relay_count.ensures, c.if-relay_count-index.false) in
    let removed = c.remove in
    accepts (Event.drop c.args.index) (words c.args.store.now) (words removed.new.store)
    (lt-ltb c.args.index _ (inside), tt) removed.ensures
