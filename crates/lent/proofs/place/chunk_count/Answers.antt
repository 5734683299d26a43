use mathlib.Core.Path.{sym, ap, ◌∙◌}
use Prim.Native.Nat.{◌/◌}
use native.Mathlib.Omega.{arith}
use lib.ListN.{length}
use Rattle.words.specs.Words.{words}
use Rattle.words.proofs.Laws.{length_words}
use Rattle.chunk_log.proofs.Codec.{dec_length}
use Rattle.lent.proofs.place.chunk_count.Goals as goal

pub returns : goal.returns
returns c =
    let t = c.args.settings in
    let log = c.log.ensures in
    let bytes = c.log.result.now in
    c.read.ensures ∙ sym (dec_length t.chunks (t.size / 8) (words bytes) (length_words bytes ∙ omega (arith, log.log.size))) ∙ ap length log.same
