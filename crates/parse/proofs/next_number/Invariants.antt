use lib.ListN.{drop}
use Prim.Native.Nat.{◌-◌}
use Rattle.parse.proofs.Laws.{Spelling}
use Rattle.parse.proofs.next_number.Given as goal

abbrev pub invariant-loop-i : goal.invariant-loop-i
invariant-loop-i l = Spelling (drop l.at l.body) (l.i - l.at) l.number
