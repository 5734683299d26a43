use mathlib.Core.Path.{◌≡◌, refl, subst, ◌∙◌}
use Prim.Native.Nat.{ℕ}
use native.Mathlib.Omega.{arith}
use Rattle.lists.proofs.Runs.{below_of}
use Rattle.calls.proofs.Calls.{kept_of}
use Rattle.batch.specs.Batch.{Batch, batch_with, Lent, lent, turns}
use Rattle.batch.proofs.Turns.{turn_keeps, turns_more}
use Rattle.batch.proofs.run_all.Goals as goal

pub loop-i-init : goal.loop-i-init
unfolding turns
loop-i-init c =
    record {
      within = omega arith;
      store_length = refl;
      area_length = refl;
      answers_length = refl;
      bytes = below_of 256 _ (λ j. omega (arith, c.type_inv.store j));
      held = c.requires.held;
      state = refl;
    }

pub run_one-requires : goal.run_one-requires
run_one-requires c =
    let v = c.loop-i.invariant in
    let p = c.requires in
    record { held = v.held; events_in = omega (arith, p.events_in); answers_in = omega (arith, p.answers_in, v.answers_length) }

pub loop-i-preserved : goal.loop-i-preserved
loop-i-preserved c =
    let s = c.args in
    let old = c.loop-i in
    let one = c.run_one in
    let batch : Batch = batch_with s.events.now s.«data».now in
    let was : Lent = lent old.store old.area old.answers in
    let is : Lent = lent one.new.store one.new.area one.new.answers in
    record {
      within = omega arith;
      store_length = one.auto.store ∙ old.invariant.store_length;
      area_length = one.auto.area ∙ old.invariant.area_length;
      answers_length = one.auto.answers ∙ old.invariant.answers_length;
      bytes = below_of 256 _ (λ j. omega (arith, c.type_inv.store j));
      held = kept_of old.invariant.held (turn_keeps s.settings.size batch old.i was is one.ensures old.invariant.bytes);
      state = turns_more s.settings.size batch old.i _ was is one.ensures old.invariant.state;
    }

pub shape_of-store : goal.shape_of-store
shape_of-store c = c.loop-i.invariant.store_length

pub shape_of-area : goal.shape_of-area
shape_of-area c = c.loop-i.invariant.area_length

pub shape_of-answers : goal.shape_of-answers
shape_of-answers c = c.loop-i.invariant.answers_length

pub returns : goal.returns
returns c =
    let s = c.args in
    let v = c.loop-i in
    let e : v.i ≡ s.n = omega (arith, v.invariant.within) in
    subst (λ (k : ℕ). lent v.store v.area v.answers ≡ turns s.settings.size (batch_with s.events.now s.«data».now) k
    (lent s.store.now s.area.now s.answers.now)) e v.invariant.state
