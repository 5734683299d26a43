use mathlib.Core.Path.{◌≡◌, ap, ◌∙◌}
use Prim.Native.Nat.{ℕ, ◌+◌}
use lib.ListN.{get_or}
use Rattle.words.specs.Words.{words}
use Rattle.layout.specs.Layout.{next_at}
use Rattle.layout.proofs.Bounds.{store_small}
use Rattle.store_check.proofs.BoundLaws.{fill_start, fill_turn}
use native.Mathlib.Omega.{arith}
use Rattle.store_check.proofs.bounds.fill_places.Goals as goal

pub loop-p-init : goal.loop-p-init
loop-p-init c = fill_start _ _ _ _

pub overflow_add-at : goal.overflow_add-at
overflow_add-at c = omega (arith, store_small _ c.requires.small)

pub loop-p-preserved : goal.loop-p-preserved
loop-p-preserved c =
    let e = c.place_at-at.ensures.0 in
    let ws = words c.args.store.now in
    rw c.set_bound.ensures
    (fill_turn _ _ ws _ c.loop-p.p _ (omega (arith, c.loop-p.invariant.long)) c.loop-p.invariant _ _
    (c.read.ensures ∙ ap (λ (k : ℕ). get_or ws k 0) e)
    (c.read-in-loop-p.ensures ∙ ap (λ (k : ℕ). get_or ws (k + next_at) 0) e))

pub returns : goal.returns
returns c =
    let e : c.loop-p.p ≡ c.args.settings.places = omega arith in
    rw e at c.loop-p.invariant
