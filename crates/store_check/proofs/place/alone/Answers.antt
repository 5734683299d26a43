use Rattle.std.proofs.Common.{rules, arith, ◌∙◌}
use borrow.Author.Tests.{tests}
use Rattle.std.proofs.lemmas.Iterator.{YieldsList-from_range}
use Rattle.std.proofs.lemmas.Iterator.Search.{all_from_yields_List}
use Rattle.words.specs.Words.{words}
use Rattle.lists.proofs.Ranges.{all_range}
use Rattle.store_check.specs.Places.{alone_at}
use Rattle.store_check.proofs.place.alone.Goals as goal

pub returns : goal.returns
returns c =
    let test = alone_at c.args.settings (words c.args.store.now) c.args.id in
    all_from_yields_List test _ _ c.all.result c.all.ensures.ran
    (YieldsList-from_range 0 c.args.p c.args.p (cc) (omega arith)) (λ x r q k. search (rules, tests))
    ∙ all_range c.args.p test
