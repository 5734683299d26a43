use Rattle.std.proofs.Common.{Bool, ℕ, refl, ◌∙◌, arith, rules, tests}
use Rattle.std.proofs.lemmas.Iterator.{YieldsList-from_range}
use Rattle.std.proofs.lemmas.Iterator.Search.{all_from_yields_List}
use Rattle.lists.specs.Tests.{◌or◌}
use Rattle.words.specs.Words.{words}
use Rattle.rules.specs.Derived.{is_empty, up_member}
use Rattle.layout.specs.Store.{decode}
use Rattle.lists.proofs.Ranges.{all_range}
use Rattle.collect.proofs.all_up.Goals as goal

pub returns : goal.returns
returns c =
    let test : ℕ → Bool = λ p. is_empty (decode (words c.args.store.now)) p or up_member (decode (words c.args.store.now)) ((decode (words c.args.store.now)).ids p) in
    all_from_yields_List test _ _ _ c.all.ensures.ran (YieldsList-from_range 0 _ c.args.settings.places refl (omega arith)) (λ x b q k. search (rules, tests)) ∙ all_range c.args.settings.places test
