use Rattle.std.proofs.Common.{Bool, ℕ, refl, ◌∙◌, arith, rules, tests}
use Rattle.std.proofs.lemmas.Iterator.{YieldsList-from_range}
use Rattle.std.proofs.lemmas.Iterator.Search.{all_from_yields_List}
use Rattle.words.specs.Words.{words}
use Rattle.layout.specs.Store.{decode}
use Rattle.alike.specs.Alike.{member_in}
use Rattle.lists.proofs.Ranges.{all_range}
use Rattle.alike.proofs.members_in.Goals as goal

pub returns : goal.returns
returns c =
    let test : ℕ → Bool = member_in (decode (words c.args.one.now)) (decode (words c.args.other.now)) in
    all_from_yields_List test _ _ _ c.all.ensures.ran (YieldsList-from_range 0 _ c.args.settings.places refl (omega arith)) (λ x b q k. search (rules, tests)) ∙ all_range c.args.settings.places test
