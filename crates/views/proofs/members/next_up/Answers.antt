use mathlib.Core.Path.{◌≡◌, sym, ◌∙◌}
use native.Mathlib.Omega.{arith}
use Rattle.rules.proofs.Ids.{lowest_start, lowest_hit, lowest_miss}
use Rattle.views.proofs.UpIds.{next_found}
use Rattle.views.proofs.members.next_up.Goals as goal
use Rattle.views.proofs.members.next_up.Goals.{then-up_within, else-up_within}

pub loop-place-init : goal.loop-place-init
loop-place-init c = lowest_start _ _ _ _

pub loop-place-preserved : goal.loop-place-preserved
loop-place-preserved c =
    let l = c.loop-place in
    elim c.if-up_within.branch [
      | then-up_within w ↦ rw (w.least-is, w.id-least.ensures) (lowest_hit _ _ _ _ l.place l.least l.invariant (sym c.up_within.ensures ∙ w.if-up_within.true))
      | else-up_within w ↦ rw w.least-is (lowest_miss _ _ _ _ l.place l.least l.invariant (sym c.up_within.ensures ∙ w.if-up_within.false))
    ]

pub returns : goal.returns
returns c =
    let l = c.loop-place in
    let e : l.place ≡ c.args.settings.places = omega arith in
    rw c.then_some.ensures (next_found _ c.args.store.now c.requires.0 c.args.from l.least c.requires.1 c.requires.2 (rw e at l.invariant))
