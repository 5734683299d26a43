use Rattle.std.proofs.Common.{rules, arith, sym, ◌∙◌}
use borrow.Author.Tests.{tests}
use Rattle.std.proofs.lemmas.Iterator.{YieldsList-from_range}
use Rattle.std.proofs.lemmas.Iterator.Search.{all_from_yields_List}
use Rattle.words.specs.Words.{words}
use Rattle.rules.specs.Sound.{sound_relay}
use Rattle.row_checks.specs.Rows.{key_below}
use Rattle.part_checks.specs.Bag.{relay_in_words}
use Rattle.part_checks.proofs.BagLaws.{bag_over, bag_begin, left_range}
use Rattle.part_checks.proofs.bag.bag_good.Goals as goal

pub returns-then-count : goal.returns-then-count
returns-then-count c = sym (bag_over _ _ (words c.args.bag.now) _ c.read-count.ensures c.if-count.true)

pub returns : goal.returns
returns c =
    let ws = words c.args.bag.now in
    let keys = key_below c.args.bounds.now in
    let n = c.read-count.result in
    all_from_yields_List (λ i. sound_relay keys c.args.settings (relay_in_words ws i)) _ _ c.all.result c.all.ensures.ran
    (YieldsList-from_range 0 n n (cc) (omega arith)) (λ x r q k. search (rules, tests))
    ∙ sym (bag_begin c.args.settings keys ws n c.read-count.ensures (omega arith) ∙ left_range c.args.settings keys ws n c.read-count.ensures n 0 (omega arith))
