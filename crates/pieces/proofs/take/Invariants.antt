use Prim.Native.Nat.{◌-◌}
use lib.ListN.{length}
use Rattle.pieces.proofs.Pieces.{Loop}
use Rattle.pieces.proofs.take.Given as goal

abbrev pub invariant-loop-read : goal.invariant-loop-read
invariant-loop-read l = Loop l.initial.now l.initial.room l.initial.line l.input l.initial.out l.room l.line l.out l.now l.read l.written

abbrev pub decreases-loop-read : goal.decreases-loop-read
decreases-loop-read l = length l.input - l.read
