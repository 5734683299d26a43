use mathlib.Core.Path.{◌≡◌, sym, ◌∙◌}
use native.Mathlib.Omega.{arith}
use Rattle.holders.proofs.Scan.{scan_start, scan_hit, scan_miss, scan_end}
use Rattle.holders.proofs.next_member.Goals as goal
use Rattle.holders.proofs.next_member.Goals.{then-member_within, else-member_within}

pub loop-place-init : goal.loop-place-init
loop-place-init c = scan_start _ _ _ _

pub loop-place-preserved : goal.loop-place-preserved
loop-place-preserved c =
    let old = c.loop-place in
    elim c.if-member_within.branch [
      | then-member_within w ↦ rw (w.least-is, w.first-is, w.id-least.ensures)
          (scan_hit _ _ _ _ old.place old.least old.first old.invariant (omega arith) (sym c.member_within.ensures ∙ w.if-member_within.true))
      | else-member_within w ↦ rw (w.least-is, w.first-is)
          (scan_miss _ _ _ _ old.place old.least old.first old.invariant (sym c.member_within.ensures ∙ w.if-member_within.false))
    ]

pub returns : goal.returns
returns c =
    let old = c.loop-place in
    let e : old.place ≡ c.args.settings.places = omega arith in
    scan_end _ c.args.store.now c.requires _ _ old.least (rw e at old.invariant.lowest) old.first old.invariant.found
