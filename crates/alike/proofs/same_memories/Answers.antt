use Rattle.std.proofs.Common.{Bool, ℕ, refl, ◌∙◌, arith, rules, tests}
use Rattle.std.proofs.lemmas.Iterator.{YieldsList-from_range}
use Rattle.std.proofs.lemmas.Iterator.Search.{all_from_yields_List}
use Rattle.words.specs.Words.{words}
use Rattle.rules.specs.Limits.{buckets}
use Rattle.layout.specs.Store.{decode}
use Rattle.alike.specs.Alike.{same_primary}
use Rattle.lists.proofs.Ranges.{all_range}
use Rattle.alike.proofs.same_memories.Goals as goal

pub returns : goal.returns
returns c =
    let test : ℕ → Bool = same_primary (decode (words c.args.one.now)) (decode (words c.args.other.now)) in
    all_from_yields_List test _ _ _ c.all.ensures.ran (YieldsList-from_range 0 _ (buckets c.args.settings) refl (omega (arith, c.buckets.ensures))) (λ x b q k. search (rules, tests)) ∙ all_range (buckets c.args.settings) test
