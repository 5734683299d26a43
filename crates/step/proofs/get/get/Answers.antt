use mathlib.Core.Path.{◌≡◌, sym, ap, ◌∙◌}
use Prim.Native.Nat.{ℕ}
use native.Mathlib.Omega.{arith}
use borrow.Author.Tests.{not-true, not-false}
use Rattle.lists.specs.Runs.{Below}
use Rattle.lists.proofs.Runs.{below_of}
use Rattle.rules.specs.Call.{is_zero_block}
use Rattle.layout.specs.Store.{decode_bytes}
use Rattle.lent.specs.Stores.{SoundStore}
use Rattle.calls.proofs.Performed.{store_sound}
use Rattle.reads.proofs.Outcomes.{size_is}
use Rattle.reads.proofs.Zeros.{zeros_are}
use Rattle.step.proofs.Parts.{unsound_part, unlent_part, got_part}
use Rattle.step.proofs.get.get.Goals as goal

-- the store is sound, and made of bytes
checked : (c : goal.Else-not-is_sound) → SoundStore c.args.store.now
checked c = store_sound _ (sym c.is_sound.ensures ∙ not-false _ c.if-not-is_sound.false-raw)

pub returns-then-not-is_sound : goal.returns-then-not-is_sound
returns-then-not-is_sound c =
    unsound_part c.args.store.now c.args.blank.now c.args.proxy c.args.block
    (sym c.is_sound.ensures ∙ not-true _ c.if-not-is_sound.true-raw)

pub settings-settings-requires : goal.settings-settings-requires
settings-settings-requires c = checked c

pub returns-then-not-is_zero_block : goal.returns-then-not-is_zero_block
unfolding decode_bytes
returns-then-not-is_zero_block c =
    let checked : SoundStore c.args.store.now = store_sound _ (sym c.is_sound.ensures ∙ not-false _ c.if-not-is_sound.false-raw) in
    let below : Below 256 c.args.store.now = below_of 256 _ (λ i. omega (arith, c.type_inv.store i)) in
    let zero_block : is_zero_block (decode_bytes c.args.store.now).settings.size c.args.blank.now ≡ c.is_zero_block.result = ap (λ (n : ℕ). is_zero_block n c.args.blank.now) (sym (size_is _ c.args.store.now c.settings-settings.ensures)) ∙ sym c.is_zero_block.ensures in
    unlent_part c.args.store.now c.args.blank.now c.args.proxy c.args.block (checked) (below)
    (zero_block ∙ not-true _ c.if-not-is_zero_block.true-raw)

pub get-requires : goal.get-requires
get-requires c =
    (c.settings-settings.ensures, zeros_are _ _ (sym c.is_zero_block.ensures ∙ not-false _ c.if-not-is_zero_block.false-raw))

pub returns : goal.returns
unfolding decode_bytes
returns c =
    let checked : SoundStore c.args.store.now = store_sound _ (sym c.is_sound.ensures ∙ not-false _ c.if-not-is_sound.false-raw) in
    let below : Below 256 c.args.store.now = below_of 256 _ (λ i. omega (arith, c.type_inv.store i)) in
    let zero_block : is_zero_block (decode_bytes c.args.store.now).settings.size c.args.blank.now ≡ c.is_zero_block.result = ap (λ (n : ℕ). is_zero_block n c.args.blank.now) (sym (size_is _ c.args.store.now c.settings-settings.ensures)) ∙ sym c.is_zero_block.ensures in
    got_part c.args.store.now c.args.blank.now c.args.proxy c.args.block (checked) (below)
    (zero_block ∙ not-false _ c.if-not-is_zero_block.false-raw) c.get.result c.get.ensures
