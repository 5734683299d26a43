use Rattle.rules.specs.Pairs.{walk_at}
use Rattle.pairing.proofs.Laws.{order_start, order_turn}
use Rattle.pairing.proofs.walk.Goals as goal

pub loop-bucket-init : goal.loop-bucket-init
loop-bucket-init c = order_start (walk_at c.args.members.now c.args.share c.args.role) c.args.assigned.now

pub loop-bucket-preserved : goal.loop-bucket-preserved
loop-bucket-preserved c =
    let l = c.loop-bucket in
    order_turn (walk_at c.args.members.now c.args.share c.args.role) c.args.assigned.now l.assigned
    c.give_way.new.assigned l.bucket l.invariant c.give_way.ensures
