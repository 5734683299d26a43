use mathlib.Core.Path.{ap, ◌∙◌}
use Prim.Native.Nat.{ℕ}
use lib.Dec.{eqb}
use Rattle.alike.proofs.Memories.{count_none}
use Rattle.alike.proofs.none_there.Goals as goal

pub returns : goal.returns
returns c = ap (λ (n : ℕ). eqb n 0) c.read.ensures ∙ count_none _ _ _ c.memory.ensures
