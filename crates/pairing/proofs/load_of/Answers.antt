use mathlib.Core.Path.{◌∙◌}
use native.Mathlib.Omega.{arith}
use lib.Seq.{take_all}
use Rattle.pairing.proofs.Laws.{load-count}
use Rattle.pairing.proofs.load_of.Goals as goal

pub returns : goal.returns
returns c =
    let counted = rw (take_all c.loop-holder.holder-index c.args.assigned.now (omega arith)) at c.loop-holder.invariant in
    counted ∙ load-count c.args.assigned.now c.args.id
