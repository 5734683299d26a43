use Rattle.std.proofs.Common.{refl, ◌∙◌, add-one}
use Rattle.lists.specs.Tests.{all_below}
use Rattle.tables.proofs.Compared.{no_other}
use Rattle.tables.proofs.same_words.Goals as goal

pub loop-i-init : goal.loop-i-init
unfolding all_below
loop-i-init c = refl

pub loop-i-preserved : goal.loop-i-preserved
unfolding all_below
loop-i-preserved c =
    let l = c.loop-i in
    no_other l.other c.read.result c.read-in-loop-i.result ∙ rw (add-one l.i, l.invariant, c.read.ensures, c.read-in-loop-i.ensures)
