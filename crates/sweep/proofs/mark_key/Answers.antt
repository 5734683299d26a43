use mathlib.Core.Path.{refl, ◌∙◌}
use Rattle.sweep.proofs.Marks.{mark_leaves, mark_none}
use Rattle.sweep.proofs.mark_key.Goals as goal

pub returns-in-Some : goal.returns-in-Some
returns-in-Some c =
    c.write.ensures ∙ mark_leaves c.args.chunks c.args.width c.args.log.now c.requires c.args.k.0 _
    c.read-s.result _ (rw c.in-Some.is at c.find.ensures.found) c.read-s.ensures refl

pub returns-in_default : goal.returns-in_default
returns-in_default c =
    mark_none c.args.chunks c.args.width c.args.log.now c.requires c.args.k.0
    (rw c.in_default.is at c.find.ensures.found)
