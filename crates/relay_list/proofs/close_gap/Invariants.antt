use Rattle.std.proofs.Common.{◌-◌, ◌≡◌}
use Rattle.relay_list.proofs.Shift.{shift}
use Rattle.relay_list.proofs.close_gap.Given as goal

-- the records that are left to shift: at the end the list is what the whole shift leaves
abbrev pub invariant-loop-i : goal.invariant-loop-i
invariant-loop-i l = shift (l.i-end - l.i) l.i l.list ≡ shift (l.i-end - l.fn.index) l.fn.index l.fn.list
