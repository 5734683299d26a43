use native.Mathlib.Omega.{arith}
use Rattle.mend.proofs.room.count_at.Goals as goal

pub read-requires : goal.read-requires
read-requires c = let f = c.requires _ c.in-Some.is in omega arith
