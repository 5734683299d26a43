use mathlib.Core.Path.{◌∙◌}
use mathlib.Core.Bool.{Bool}
use Prim.Native.Nat.{ℕ}
use borrow.Author.Rules.{rules}
use native.Mathlib.Omega.{arith}
use Rattle.std.specs.List.{range_with_len}
use Rattle.std.proofs.lemmas.Iterator.{YieldsList-from_range}
use Rattle.std.proofs.lemmas.Iterator.Consumers.{YieldsList-from_filter, count_from_yields_List}
use Rattle.std.proofs.lemmas.List.Sums.{length-filter}
use Rattle.words.specs.Words.{words}
use Rattle.rules.specs.Derived.{is_up}
use Rattle.layout.specs.Store.{decode}
use Rattle.views.proofs.Counts.{count-below}
use Rattle.views.proofs.members.count_up.Goals as goal

pub returns : goal.returns
returns c =
    let test : ℕ → Bool = is_up (decode (words c.args.store.now)) in
    let n = c.args.settings.places in
    count_from_yields_List c.filter.result c.count.result c.count.ensures.ran (YieldsList-from_filter _ test (YieldsList-from_range 0 n n c.filter.ensures.source (omega arith)) c.filter.ensures.closure (λ x b q k. search rules))
    ∙ length-filter test (range_with_len 0 n) ∙ count-below n test
