use mathlib.Core.Path.{refl}
use Rattle.rules.specs.Reads.{zeros}
use Rattle.replies.proofs.zero_block.Goals as goal

pub returns : goal.returns
unfolding zeros
returns c = refl
