use mathlib.Core.Path.{ap, ◌∙◌}
use mathlib.Core.List.{List}
use native.Mathlib.Omega.{arith}
use Rattle.rules.specs.Chunks.{Chunk, held}
use Rattle.chunk_log.proofs.Check.{looser}
use Rattle.holders.proofs.holds_at.Goals as goal

pub holds-requires : goal.holds-requires
holds-requires c = looser (omega arith) c.log.ensures.log

pub returns : goal.returns
returns c =
    c.holds.ensures ∙ ap (λ (l : List Chunk). held l c.args.key.0) c.log.ensures.same
