use mathlib.Core.Path.{sym, ◌∙◌}
use native.Mathlib.Omega.{arith}
use Rattle.layout.specs.Store.{decode_bytes}
use Rattle.layout.proofs.Bytes.{bytes_sound, bytes_size}
use Rattle.relay_list.proofs.Shown.{unsound, too_few, all_yes}
use Rattle.relay_list.proofs.stored.asks.Goals as goal

pub returns-then-not-is_sound : goal.returns-then-not-is_sound
returns-then-not-is_sound c = unsound _ _ (sym c.is_sound.ensures ∙ c.if-not-is_sound.true)

pub settings-settings-requires : goal.settings-settings-requires
settings-settings-requires c =
    let yes = sym c.is_sound.ensures ∙ c.if-not-is_sound.false in
    record { size = bytes_size _ yes; sound = bytes_sound _ yes }

pub returns-then-room-relay_count : goal.returns-then-room-relay_count
unfolding decode_bytes
returns-then-room-relay_count c =
    let right = sym c.is_sound.ensures ∙ c.if-not-is_sound.false in
    too_few _ _ right (omega (arith, c.if-room-relay_count.true, c.relay_count.ensures))

pub returns-else-room-relay_count : goal.returns-else-room-relay_count
unfolding decode_bytes
returns-else-room-relay_count c =
    let right = sym c.is_sound.ensures ∙ c.if-not-is_sound.false in
    all_yes _ _ right (omega (arith, c.if-room-relay_count.false, c.relay_count.ensures))
