use mathlib.Core.Path.{◌∙◌}
use Rattle.chunk_log.proofs.Steps.{no_chunks}
use Rattle.chunk_log.proofs.clear.Goals as goal

pub returns : goal.returns
returns c =
    c.write.ensures ∙ no_chunks c.args.chunks c.args.width c.args.log.now c.requires
