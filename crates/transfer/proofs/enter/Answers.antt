use mathlib.Core.Path.{◌≡◌}
use Prim.Native.Nat.{◌+◌, ◌*◌, ◌/◌}
use native.Mathlib.Omega.{arith}
use lib.ListN.{length}
use Rattle.chunk_log.specs.Steps.{with_next}
use Rattle.layout.specs.Layout.{log_words, log_at}
use Rattle.lent.proofs.PlaceLogs.{part_log, part_room, part_back}
use Rattle.transfer.proofs.enter.Goals as goal

pub append_in_place-requires : goal.append_in_place-requires
append_in_place-requires c =
    let start : 8 * c.log_at-at.result ≡ 8 * log_at c.args.settings = omega (arith, c.log_at-at.ensures) in
    let end : length c.args.part.now ≡ 8 * c.log_at-at.result + 8 * log_words c.args.settings = omega (arith, start, c.requires.place.size) in
    let a = c.args in
    let place = c.requires.place in (
      part_log a.settings a.part.now place _ _ (start) (end),
      part_room a.settings a.part.now place _ _ (start) (end) c.requires.room,
    )

pub returns : goal.returns
returns c =
    let start : 8 * c.log_at-at.result ≡ 8 * log_at c.args.settings = omega (arith, c.log_at-at.ensures) in
    let end : length c.args.part.now ≡ 8 * c.log_at-at.result + 8 * log_words c.args.settings = omega (arith, start, c.requires.place.size) in
    let a = c.args in
    part_back a.settings a.part.now c.requires.place _ _ (start) (end)
    (with_next a.settings.chunks (a.settings.size / 8) a.key.0 a.saved) c.append_in_place.new.log (omega arith) c.append_in_place.ensures
