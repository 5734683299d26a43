use mathlib.Core.Path.{◌≡◌, sym, ◌∙◌}
use borrow.Author.Count.{below_more}
use Rattle.lists.proofs.Tests.{all_true, all_false}
use Rattle.words.specs.Words.{words}
use Rattle.row_checks.specs.Rows.{key_below}
use Rattle.part_checks.specs.Copies.{copies_sound}
use Rattle.part_checks.proofs.CopyLaws.{AllCopies, all_copies, copies_of_bucket, copies_part}
use native.Mathlib.Omega.{arith}
use Rattle.part_checks.proofs.copies.all_copies_good.Goals as goal
use Rattle.part_checks.proofs.copies.all_copies_good.Goals.{After-copies_good}

-- the code's test of a bucket's copies is the rules'
tested : (c : After-copies_good) → copies_sound c.args.settings (key_below c.args.bounds.now) c.args.up (words c.args.copies.now) c.loop-g.g ≡ c.copies_good.result
tested c =
    let a = c.args in
    let at = c.offset-a in
    let room : AllCopies a.settings c.buckets-count.result c.copies_words-size.result = all_copies _ _ _ c.requires.passed.small c.buckets-count.ensures c.copies_words-size.ensures in
    copies_part a.settings (key_below a.bounds.now) a.up (words a.copies.now) _ c.loop-g.g
    (copies_of_bucket a.settings _ _ c.loop-g.g at.result a.copies.now room c.copies_words-size.ensures c.requires.size
    at.ensures.0 at.ensures.1) ∙ sym c.copies_good.ensures

pub returns-then-not-copies_good : goal.returns-then-not-copies_good
returns-then-not-copies_good c =
    sym (all_false _ _ c.loop-g.g (omega (arith, c.buckets-count.ensures)) (tested (goal.at.returns-then-not-copies_good c).After-copies_good ∙ c.if-not-copies_good.true))

pub loop-g-preserved : goal.loop-g-preserved
loop-g-preserved c = below_more _ c.loop-g.g c.loop-g.invariant (tested (goal.at.loop-g-preserved c).After-copies_good ∙ c.if-not-copies_good.false)

pub returns : goal.returns
returns c = sym (all_true _ _ (λ k p. c.loop-g.invariant k (omega (arith, c.buckets-count.ensures))))
