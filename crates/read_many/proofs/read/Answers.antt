use mathlib.Core.Path.{◌≡◌, sym, ◌∙◌}
use mathlib.Core.Bool.{true}
use borrow.Author.Tests.{not-true, not-false}
use Rattle.layout.specs.Store.{decode_bytes, sound_bytes}
use Rattle.reads.proofs.Outcomes.{size_is}
use Rattle.calls.proofs.Performed.{store_sound}
use Rattle.read_many.proofs.Answers.{fits-room, read_unsound, read_none, read_all}
use Rattle.read_many.proofs.read.Goals as goal

pub returns-then-not-is_sound : goal.returns-then-not-is_sound
returns-then-not-is_sound c =
    let s = c.args in
    read_unsound s.store.now s.proxy s.blocks.now s.answers.now (sym c.is_sound.ensures ∙ not-true _ c.if-not-is_sound.true-raw)

pub settings-settings-requires : goal.settings-settings-requires
settings-settings-requires c =
    let passed : sound_bytes c.args.store.now ≡ true = sym c.is_sound.ensures ∙ not-false _ c.if-not-is_sound.false-raw in
    store_sound _ (passed)

pub set_answers-requires : goal.set_answers-requires
set_answers-requires c =
    (c.settings-settings.ensures, fits-room _ _ _ (sym c.fits.ensures ∙ c.if-fits.true))

pub returns-then-fits : goal.returns-then-fits
unfolding decode_bytes
returns-then-fits c =
    let passed : sound_bytes c.args.store.now ≡ true = sym c.is_sound.ensures ∙ not-false _ c.if-not-is_sound.false-raw in
    let s = c.args in
    read_all s.store.now s.proxy s.blocks.now s.answers.now (passed) c.settings-settings.result.size
    (size_is c.settings-settings.result s.store.now c.settings-settings.ensures) (sym c.fits.ensures ∙ c.if-fits.true) _
    c.set_answers.ensures

pub returns : goal.returns
unfolding decode_bytes
returns c =
    let passed : sound_bytes c.args.store.now ≡ true = sym c.is_sound.ensures ∙ not-false _ c.if-not-is_sound.false-raw in
    let s = c.args in
    read_none s.store.now s.proxy s.blocks.now s.answers.now (passed) c.settings-settings.result.size
    (size_is c.settings-settings.result s.store.now c.settings-settings.ensures) (sym c.fits.ensures ∙ c.if-fits.false)
