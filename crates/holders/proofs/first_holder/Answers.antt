use mathlib.Core.Path.{◌≡◌, sym, subst, ◌∙◌}
use mathlib.Core.Bool.{false}
use mathlib.Core.List.{[]}
use Prim.Native.Nat.{ℕ}
use native.Mathlib.Omega.{arith}
use Rattle.words.specs.Words.{words}
use Rattle.rules.specs.Chunks.{held}
use Rattle.chunk_log.specs.Answers.{FoundAt}
use Rattle.chunk_log.proofs.Rules.{held_at}
use Rattle.layout.specs.Store.{decode}
use Rattle.holders.specs.Members.{between, NextAt}
use Rattle.holders.proofs.Sought.{sought_none, sought_over, sought_here, sought_on}
use Rattle.holders.proofs.first_holder.Goals as goal

pub returns-in_err-place : goal.returns-in_err-place
returns-in_err-place c =
    let old = c.loop-low in
    let none : between (decode (words c.args.store.now)) old.low c.args.to ≡ [] =
    rw c.in_err-place.was at c.next_member.ensures in
    rw c.from_residual.ensures
    (old.invariant ∙ sought_none _ c.args.store.now c.requires c.args.key.0 old.low c.args.to none)

pub returns-in-Some : goal.returns-in-Some
returns-in-Some c =
    let next : NextAt c.args.settings (decode (words c.args.store.now)) c.loop-low.low c.args.to c.in_ok-place.place = rw c.in_ok-place.was at c.next_member.ensures in
    let state = decode (words c.args.store.now) in
    let n = next in
    let k = c.args.key.0 in
    let row = c.in-Some.row in
    let f : FoundAt (state.bricks.log (state.ids c.in_ok-place.place)) k row = rw c.in-Some.is at c.find_at.ensures in
    let e = c.loop-low.invariant ∙ sought_here _ c.args.store.now c.requires k c.loop-low.low c.args.to c.in_ok-place.place n
    (held_at _ k row f.in_use f.same) in
    record {
      stands = record { inside = n.inside; some = rw e n.some; here = sym e };
      found = subst (λ (i : ℕ). FoundAt (state.bricks.log i) k row) (sym e) f;
    }

pub loop-low-preserved : goal.loop-low-preserved
loop-low-preserved c =
    let next : NextAt c.args.settings (decode (words c.args.store.now)) c.loop-low.low c.args.to c.in_ok-place.place = rw c.in_ok-place.was at c.next_member.ensures in
    let state = decode (words c.args.store.now) in
    let none : held (state.bricks.log (state.ids c.in_ok-place.place)) c.args.key.0 ≡ false =
    rw c.in_default.is at c.find_at.ensures in
    rw c.id-low.ensures
    (c.loop-low.invariant ∙ sought_on _ c.args.store.now c.requires c.args.key.0 c.loop-low.low c.args.to c.in_ok-place.place (next) none)

pub returns : goal.returns
returns c =
    let old = c.loop-low in
    old.invariant ∙ sought_over _ c.args.store.now c.requires c.args.key.0 old.low c.args.to (omega arith)
