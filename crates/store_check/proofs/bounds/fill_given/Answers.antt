use Rattle.store_check.proofs.BoundLaws.{given_start, given_turn, given_end}
use native.Mathlib.Omega.{arith}
use Rattle.store_check.proofs.bounds.fill_given.Goals as goal

pub loop-i-init : goal.loop-i-init
loop-i-init c = given_start _

pub loop-i-preserved : goal.loop-i-preserved
loop-i-preserved c = given_turn c.loop-i.i _ _ (omega arith) (omega arith) c.loop-i.invariant

pub returns : goal.returns
returns c = given_end _ c.loop-i.i _ _ (omega arith) (omega arith) c.loop-i.invariant
