use Rattle.rules.specs.Pairs.{fill_at}
use Rattle.pairing.proofs.Laws.{order_start, order_turn}
use Rattle.pairing.proofs.fill_all.Goals as goal

pub loop-bucket-init : goal.loop-bucket-init
loop-bucket-init c = order_start (fill_at c.args.members.now) c.args.assigned.now

pub loop-bucket-preserved : goal.loop-bucket-preserved
loop-bucket-preserved c =
    let l = c.loop-bucket in
    order_turn (fill_at c.args.members.now) c.args.assigned.now l.assigned
    c.fill_position-in-loop-bucket.new.assigned l.bucket l.invariant (cc (c.fill_position.ensures, c.fill_position-in-loop-bucket.ensures))
