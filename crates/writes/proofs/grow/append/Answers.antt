use mathlib.Core.Path.{◌≡◌}
use Prim.Native.Nat.{◌+◌, ◌*◌}
use native.Mathlib.Omega.{arith}
use lib.ListN.{length}
use Rattle.codec.specs.Codec.{change}
use Rattle.layout.specs.Layout.{log_codec, log_words, log_at}
use Rattle.writes.specs.Logs.{with_chunk}
use Rattle.lent.proofs.PlaceLogs.{part_log, part_room, part_back}
use Rattle.writes.proofs.grow.append.Goals as goal

pub append-requires : goal.append-requires
append-requires c =
    let start : 8 * c.log_at-at.result ≡ 8 * log_at c.args.settings = omega (arith, c.log_at-at.ensures) in
    let end : length c.args.part.now ≡ 8 * c.log_at-at.result + 8 * log_words c.args.settings = omega (arith, start, c.requires.log.place.size) in
    let a = c.args in
    let place = c.requires.log.place in
    let words = place.limits.size_words in record { log = part_log a.settings a.part.now place _ _ (start) (end); log_bound = (part_room a.settings a.part.now place _ _ (start) (end) c.requires.log.room, omega (arith, c.requires.whole)) }

pub returns : goal.returns
returns c =
    let start : 8 * c.log_at-at.result ≡ 8 * log_at c.args.settings = omega (arith, c.log_at-at.ensures) in
    let end : length c.args.part.now ≡ 8 * c.log_at-at.result + 8 * log_words c.args.settings = omega (arith, start, c.requires.log.place.size) in
    let a = c.args in
    part_back a.settings a.part.now c.requires.log.place _ _ (start) (end)
    (change (log_codec a.settings) (with_chunk a.key.0 a.bytes.now)) c.append.new.log (omega arith) c.append.ensures
