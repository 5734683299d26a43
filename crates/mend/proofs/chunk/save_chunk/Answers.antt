use Prim.Native.Nat.{◌+◌, ◌*◌}
use native.Mathlib.Omega.{arith}
use Rattle.rules.specs.Chunks.{save_key}
use Rattle.codec.specs.Codec.{change}
use Rattle.layout.specs.Layout.{log_codec}
use Rattle.lent.proofs.PlaceLogs.{part_log, part_back}
use Rattle.mend.proofs.chunk.save_chunk.Goals as goal

pub save_key-requires : goal.save_key-requires
save_key-requires c =
    let a = c.args in
    let o = 8 * c.log_at-a.result in
    part_log a.settings a.part.now c.requires o (o + 8 * c.log_words.result) (omega arith) (omega arith)

pub returns : goal.returns
returns c =
    let a = c.args in
    let o = 8 * c.log_at-a.result in
    part_back a.settings a.part.now c.requires o (o + 8 * c.log_words.result) (omega arith) (omega arith)
    (change (log_codec a.settings) (λ l. save_key l a.key.0))
    c.save_key.new.log (omega arith) c.save_key.ensures
