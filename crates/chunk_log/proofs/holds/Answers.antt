use mathlib.Core.Path.{◌∙◌}
use Rattle.chunk_log.proofs.Steps.{found_or_not}
use Rattle.chunk_log.proofs.holds.Goals as goal

pub returns : goal.returns
returns c =
    c.is_some.ensures ∙ found_or_not c.args.chunks c.args.width c.args.log.now c.requires c.args.k.0 c.find.result c.find.ensures.found
