use native.Mathlib.Omega.{arith}
use Rattle.batch.proofs.Blocks.{reach_same, reach_short}
use Rattle.batch.proofs.reaches.Goals as goal

pub returns-then-size-length : goal.returns-then-size-length
returns-then-size-length c = reach_same _ _ _ c.if-size-length.true

pub returns : goal.returns
returns c = reach_short c.args.at c.args.size c.args.length (omega arith)
