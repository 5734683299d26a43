use mathlib.Core.Path.{ap, ◌∙◌}
use mathlib.Core.List.{List}
use Rattle.rules.specs.Chunks.{Chunk, saved_in}
use Rattle.holders.proofs.saved_at.Goals as goal

pub returns : goal.returns
returns c =
    c.holds_saved.ensures ∙ ap (λ (l : List Chunk). saved_in l c.args.key.0) c.log.ensures.same
