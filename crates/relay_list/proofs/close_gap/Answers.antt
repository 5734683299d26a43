use Rattle.std.proofs.Common.{◌≡◌, ◌-◌, ◌∙◌, arith}
use Rattle.relay_list.proofs.Shift.{one_turn, lost}
use Rattle.relay_list.proofs.close_gap.Goals as goal

pub loop-i-preserved : goal.loop-i-preserved
loop-i-preserved c = one_turn (c.args.count - 1) c.loop-i.i c.loop-i.list (omega arith) ∙ c.loop-i.invariant

pub returns : goal.returns
returns c =
    let none : c.args.count - 1 - c.loop-i.i ≡ 0 = omega arith in
    let all = rw none at c.loop-i.invariant in
    rw all (lost _ _ _ c.requires.0 c.requires.1)
