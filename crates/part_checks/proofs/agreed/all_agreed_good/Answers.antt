use mathlib.Core.Path.{◌≡◌, refl, sym, ap, ◌∙◌}
use Prim.Native.Nat.{◌+◌, ◌*◌}
use borrow.Author.Count.{below_more}
use Rattle.lists.proofs.Tests.{all_true, all_false}
use Rattle.words.specs.Words.{words}
use Rattle.layout.specs.Layout.{agreed_words, agreed_at}
use Rattle.part_checks.specs.Agreed.{agreed_sound, agreed_at_sound}
use Rattle.layout.proofs.Lent.{lent}
use native.Mathlib.Omega.{arith}
use Rattle.part_checks.proofs.agreed.all_agreed_good.Goals as goal
use Rattle.part_checks.proofs.agreed.all_agreed_good.Goals.{After-agreed_good}

-- the code's test of a bucket is the rules'
tested : (c : After-agreed_good) → agreed_at_sound c.args.given (words c.args.store.now) c.loop-g.g ≡ c.agreed_good.result
unfolding agreed_at_sound
tested c =
    let at = c.agreed_at-a in
    ap (agreed_sound c.args.given) (sym (lent c.args.store.now (8 * at.result) (8 * at.result + 8 * agreed_words) (agreed_at c.loop-g.g) agreed_words
    (omega (arith, at.ensures.0)) refl (omega (arith, at.ensures, c.requires.size)))) ∙ sym c.agreed_good.ensures

pub returns-then-not-agreed_good : goal.returns-then-not-agreed_good
returns-then-not-agreed_good c =
    sym (all_false _ _ c.loop-g.g (omega (arith, c.buckets-g-end.ensures)) (tested (goal.at.returns-then-not-agreed_good c).After-agreed_good ∙ c.if-not-agreed_good.true))

pub loop-g-preserved : goal.loop-g-preserved
loop-g-preserved c = below_more _ c.loop-g.g c.loop-g.invariant (tested (goal.at.loop-g-preserved c).After-agreed_good ∙ c.if-not-agreed_good.false)

pub returns : goal.returns
returns c = sym (all_true _ _ (λ k p. c.loop-g.invariant k (omega (arith, c.buckets-g-end.ensures))))
