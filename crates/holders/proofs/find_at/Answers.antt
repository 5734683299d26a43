use mathlib.Core.Path.{subst}
use mathlib.Core.List.{List}
use native.Mathlib.Omega.{arith}
use Rattle.rules.specs.Chunks.{Chunk}
use Rattle.chunk_log.specs.Answers.{FoundIn}
use Rattle.chunk_log.proofs.Check.{looser}
use Rattle.holders.proofs.find_at.Goals as goal

pub find-requires : goal.find-requires
find-requires c = looser (omega arith) c.log.ensures.log

pub returns : goal.returns
returns c =
    subst (λ (l : List Chunk). FoundIn l c.args.key.0 c.find.result) c.log.ensures.same c.find.ensures.found
