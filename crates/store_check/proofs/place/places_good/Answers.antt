use mathlib.Core.Path.{sym, ◌∙◌}
use borrow.Author.Count.{below_more}
use Rattle.lists.proofs.Tests.{all_true, all_false}
use Rattle.store_check.proofs.PlaceLaws.{passed_below}
use native.Mathlib.Omega.{arith}
use Rattle.store_check.proofs.place.places_good.Goals as goal

pub place_good-requires : goal.place_good-requires
place_good-requires c =
    let l = c.loop-p in record {
      places_fit = c.requires;
      passed = passed_below c.args.settings c.args.bounds.now c.args.store.now c.args.given l.p c.requires.small c.requires.size (omega arith) l.invariant;
    }

pub returns-then-not-place_good : goal.returns-then-not-place_good
returns-then-not-place_good c = sym (all_false _ _ c.loop-p.p (omega arith) (sym c.place_good.ensures ∙ c.if-not-place_good.true))

pub loop-p-preserved : goal.loop-p-preserved
loop-p-preserved c = below_more _ c.loop-p.p c.loop-p.invariant (sym c.place_good.ensures ∙ c.if-not-place_good.false)

pub returns : goal.returns
returns c = sym (all_true _ _ (λ k h. c.loop-p.invariant k (omega arith)))
