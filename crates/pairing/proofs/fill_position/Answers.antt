use Rattle.pairing.proofs.Laws.{fill_empty, fill_held}
use Rattle.pairing.proofs.fill_position.Goals as goal

pub returns-then-assigned-position-eq0 : goal.returns-then-assigned-position-eq0
returns-then-assigned-position-eq0 c =
    fill_empty c.args.members.now c.args.position c.args.other c.args.assigned.now c.least_loaded-id.result c.if-assigned-position-eq0.true
    c.least_loaded-id.ensures

pub returns-else-assigned-position-eq0 : goal.returns-else-assigned-position-eq0
returns-else-assigned-position-eq0 c =
    fill_held c.args.members.now c.args.position c.args.other c.args.assigned.now c.if-assigned-position-eq0.false
