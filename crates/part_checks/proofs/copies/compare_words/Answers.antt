use mathlib.Core.Path.{refl, ◌∙◌}
use native.Mathlib.Numerals.{add-one}
use Rattle.lists.specs.Tests.{all_below}
use Rattle.tables.proofs.Compared.{no_other}
use Rattle.part_checks.proofs.copies.compare_words.Goals as goal

pub loop-i-init : goal.loop-i-init
unfolding all_below
loop-i-init c = (refl, refl)

pub loop-i-preserved : goal.loop-i-preserved
unfolding all_below
loop-i-preserved c =
    let l = c.loop-i in (
      no_other l.other c.read-word.result c.read.result
          ∙ rw (add-one l.i, l.invariant.0, c.read-word.ensures, c.read.ensures),
      no_other l.unsaved c.read-word.result c.read-in-loop-i.result
          ∙ rw (add-one l.i, l.invariant.1, c.read-word.ensures, c.read-in-loop-i.ensures),
    )
