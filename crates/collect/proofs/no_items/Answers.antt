use Rattle.std.proofs.Common.{Bool, ℕ, eqb, length, refl, ◌∙◌, rules, tests}
use Rattle.std.proofs.lemmas.Iterator.{YieldsList-from_range}
use Rattle.std.proofs.lemmas.Iterator.Search.{all_from_yields_List}
use Rattle.words.specs.Words.{words}
use Rattle.layout.specs.Store.{decode}
use Rattle.lists.proofs.Ranges.{all_range}
use Rattle.collect.proofs.no_items.Goals as goal

pub returns : goal.returns
returns c =
    let test : ℕ → Bool = λ p. eqb (length ((decode (words c.args.store.now)).items p)) 0 in
    all_from_yields_List test _ _ _ c.all.ensures.ran (YieldsList-from_range 0 4 4 refl refl) (λ x b q k. search (rules, tests)) ∙ all_range 4 test
