use mathlib.Core.Path.{◌∙◌}
use Rattle.words.proofs.Laws.{word_read}
use Rattle.words.proofs.read.Goals as goal

pub returns : goal.returns
returns c =
    c.from_le_bytes.ensures ∙ word_read c.args.s.now c.args.i c.as_chunks.result.0.now c.requires c.as_chunks.ensures.front
