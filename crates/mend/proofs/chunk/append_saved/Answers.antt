use mathlib.Core.Bool.{true}
use Prim.Native.Nat.{◌+◌, ◌*◌}
use native.Mathlib.Omega.{arith}
use Rattle.rules.specs.Chunks.{new_chunk, append}
use Rattle.codec.specs.Codec.{change}
use Rattle.layout.specs.Layout.{log_codec}
use Rattle.lent.proofs.PlaceLogs.{part_log, part_room, part_back}
use Rattle.mend.proofs.chunk.append_saved.Goals as goal

pub append-requires : goal.append-requires
append-requires c =
    let a = c.args in
    let o = 8 * c.log_at-a.result in
    let e = o + 8 * c.log_words.result in
    let whole = c.requires.place_log.limits.size_words in record { log = part_log a.settings a.part.now c.requires.place_log o e (omega arith) (omega arith); log_bound = (part_room a.settings a.part.now c.requires.place_log o e (omega arith) (omega arith) c.requires.part_bound.0, omega (arith, c.requires.part_bound.1)) }

pub returns : goal.returns
returns c =
    let a = c.args in
    let o = 8 * c.log_at-a.result in
    part_back a.settings a.part.now c.requires.place_log o (o + 8 * c.log_words.result) (omega arith) (omega arith)
    (change (log_codec a.settings) (λ l. append l (new_chunk a.key.0 true a.bytes.now)))
    c.append.new.log (omega arith) c.append.ensures
