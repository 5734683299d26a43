use mathlib.Core.Path.{sym, ◌∙◌}
use native.Mathlib.Omega.{arith}
use Rattle.pairing.proofs.Laws.{among_here, among_next, among_end}
use Rattle.pairing.proofs.is_member.Goals as goal

pub returns-then-member-id : goal.returns-then-member-id
returns-then-member-id c =
    let l = c.loop-member in
    sym (l.invariant ∙ among_here c.args.members.now l.member-index c.args.id (omega arith) c.if-member-id.true)

pub loop-member-preserved : goal.loop-member-preserved
loop-member-preserved c =
    let l = c.loop-member in
    l.invariant ∙ among_next c.args.members.now l.member-index c.args.id (omega arith) c.if-member-id.false

pub returns : goal.returns
returns c =
    let l = c.loop-member in
    sym (l.invariant ∙ among_end c.args.members.now l.member-index c.args.id (omega arith))
