use mathlib.Core.Path.{ap, ◌∙◌}
use mathlib.Core.List.{List}
use Prim.Native.Nat.{◌/◌}
use native.Mathlib.Omega.{arith}
use lib.ListN.{length}
use Rattle.words.specs.Words.{words}
use Rattle.rules.specs.Chunks.{Chunk}
use Rattle.chunk_log.specs.Log.{chunk_at}
use Rattle.chunk_log.proofs.Check.{looser}
use Rattle.chunk_log.proofs.Codec.{dec_length}
use Rattle.chunk_log.proofs.Steps.{sizes}
use Rattle.holders.proofs.chunk.Goals as goal

pub bytes_at-requires : goal.bytes_at-requires
bytes_at-requires c =
    let log = c.log-log in
    let t = c.args.settings in
    let count = dec_length t.chunks (t.size / 8) (words log.result.now) (sizes t.chunks (t.size / 8) log.result.now log.ensures.log) in record { log_with = looser (omega arith) log.ensures.log; p_bound = omega (arith, count, ap length log.ensures.same, c.requires.3) }

pub returns : goal.returns
returns c =
    let log = c.log-log in
    c.bytes_at.ensures.0 ∙ ap (λ (l : List Chunk). (chunk_at l c.args.row).bytes) log.ensures.same
