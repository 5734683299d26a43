use mathlib.Core.Path.{◌∙◌}
use native.Mathlib.Omega.{arith}
use borrow.Author.Rules.{rules}
use Rattle.views.proofs.UpIds.{all_from, listed_start, listed_turn, listed_all}
use Rattle.views.proofs.members.up_ids.Goals as goal

pub loop-id-init : goal.loop-id-init
loop-id-init c = (search rules, listed_start _ _)

pub loop-id-preserved : goal.loop-id-preserved
loop-id-preserved c =
    let l = c.loop-id in
    (search rules, listed_turn _ l.ids l.count l.from l.invariant.1 c.in-Some.id (omega (arith, l.invariant.1.behind, c.in-Some.ensures)) c.in-Some.ensures)

pub returns : goal.returns
returns c =
    let l = c.loop-id in
    (omega (arith, l.invariant.1.behind, l.invariant.1.high), listed_all _ l.ids l.count l.from l.invariant.1 c.in_default.ensures ∙ all_from _ c.args.store.now c.requires.0)
