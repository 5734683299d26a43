use mathlib.Core.Path.{◌≡◌}
use Prim.Native.Nat.{◌≤◌}
use lib.ListN.{take, drop}
use Rattle.text.specs.Kinds.{packed_upto}
use Rattle.text.specs.Fields.{before, fields}
use Rattle.parse.proofs.first_word.Given as goal

abbrev pub invariant-loop-i : goal.invariant-loop-i
invariant-loop-i l = record {
  short : l.i ≤ 7;
  field : fields l.body ≡ before (take l.i l.body) (fields (drop l.i l.body));
  number : l.packed ≡ packed_upto l.body l.i;
}
