use mathlib.Core.Path.{◌≡◌, sym, ◌∙◌}
use mathlib.Core.Bool.{true}
use native.Mathlib.Omega.{arith}
use borrow.Author.Tests.{not-true, not-false}
use Rattle.layout.specs.Store.{decode_bytes, sound_bytes}
use Rattle.reads.proofs.Outcomes.{size_is}
use Rattle.calls.proofs.Performed.{store_sound}
use Rattle.batch.specs.Batch.{batch_with, lent}
use Rattle.batch.proofs.Turns.{ran_unsound, odd_runs, short_runs, all_runs}
use Rattle.batch.proofs.run.Goals as goal

pub returns-then-not-is_sound : goal.returns-then-not-is_sound
returns-then-not-is_sound c =
    let s = c.args in
    sym (ran_unsound (batch_with s.events.now s.«data».now) (lent s.store.now s.area.now s.answers.now)
    (sym c.is_sound.ensures ∙ not-true _ c.if-not-is_sound.true-raw))

pub returns-then-events-n : goal.returns-then-events-n
returns-then-events-n c =
    let passed : sound_bytes c.args.store.now ≡ true = sym c.is_sound.ensures ∙ not-false _ c.if-not-is_sound.false-raw in
    let s = c.args in
    odd_runs (batch_with s.events.now s.«data».now) (lent s.store.now s.area.now s.answers.now) (passed) c.if-events-n.true

pub returns-then-answers-n : goal.returns-then-answers-n
returns-then-answers-n c =
    let passed : sound_bytes c.args.store.now ≡ true = sym c.is_sound.ensures ∙ not-false _ c.if-not-is_sound.false-raw in
    let s = c.args in
    short_runs (batch_with s.events.now s.«data».now) (lent s.store.now s.area.now s.answers.now) (passed)
    c.if-answers-n.true

pub settings-settings-requires : goal.settings-settings-requires
settings-settings-requires c =
    let passed : sound_bytes c.args.store.now ≡ true = sym c.is_sound.ensures ∙ not-false _ c.if-not-is_sound.false-raw in
    store_sound _ (passed)

pub run_all-requires : goal.run_all-requires
run_all-requires c =
    record { held = c.settings-settings.ensures; events_in = omega (arith, c.if-events-n.false); answers_in = omega (arith, c.if-answers-n.false) }

pub returns : goal.returns
unfolding decode_bytes
returns c =
    let passed : sound_bytes c.args.store.now ≡ true = sym c.is_sound.ensures ∙ not-false _ c.if-not-is_sound.false-raw in
    let s = c.args in
    let settings = c.settings-settings in
    all_runs (batch_with s.events.now s.«data».now) (lent s.store.now s.area.now s.answers.now) (passed) settings.result.size
    (size_is settings.result s.store.now settings.ensures) c.if-events-n.false c.if-answers-n.false _ c.run_all.ensures
