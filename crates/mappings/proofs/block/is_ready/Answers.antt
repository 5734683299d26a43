use mathlib.Core.Path.{ap}
use Rattle.layout.specs.Contents.{Agreed}
use Rattle.mappings.proofs.block.is_ready.Goals as goal

pub returns : goal.returns
returns c = ap (λ (a : Agreed). a.ready) c.agreed.ensures
