use mathlib.Core.Path.{sym, ◌∙◌}
use borrow.Author.Tests.{not-true, not-false}
use Rattle.lists.proofs.Tests.{both, no_first, no_second}
use Rattle.layout.specs.Store.{decode_bytes}
use Rattle.layout.proofs.Bytes.{bytes_sound, bytes_size}
use Rattle.alike.specs.Alike.{alike_answer}
use Rattle.alike.proofs.alike.Goals as goal

pub returns-then-not-is_sound : goal.returns-then-not-is_sound
unfolding alike_answer
returns-then-not-is_sound c = rw (no_first _ _ (sym c.is_sound.ensures ∙ not-true _ c.if-not-is_sound.true-raw))

pub returns-then-not-is_sound-2 : goal.returns-then-not-is_sound-2
unfolding alike_answer
returns-then-not-is_sound-2 c = rw (no_second _ _ (sym c.is_sound-2.ensures ∙ not-true _ c.if-not-is_sound-2.true-raw))

pub are_alike-requires : goal.are_alike-requires
are_alike-requires c =
    let one = sym c.is_sound.ensures ∙ not-false _ c.if-not-is_sound.false-raw in
    let other = sym c.is_sound-2.ensures ∙ not-false _ c.if-not-is_sound-2.false-raw in
    (record { size = bytes_size _ one; sound = bytes_sound _ one }, record { size = bytes_size _ other; sound = bytes_sound _ other })

pub returns : goal.returns
unfolding alike_answer decode_bytes
returns c =
    let one = sym c.is_sound.ensures ∙ not-false _ c.if-not-is_sound.false-raw in
    let other = sym c.is_sound-2.ensures ∙ not-false _ c.if-not-is_sound-2.false-raw in
    rw (both _ _ one other, c.are_alike.ensures)
