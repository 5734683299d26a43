use Rattle.rules.specs.Pairs.{keep_at}
use Rattle.pairing.proofs.Laws.{order_start, order_turn}
use Rattle.pairing.proofs.keep_all.Goals as goal

pub loop-bucket-init : goal.loop-bucket-init
loop-bucket-init c = order_start (keep_at c.args.members.now) c.args.assigned.now

pub loop-bucket-preserved : goal.loop-bucket-preserved
loop-bucket-preserved c =
    let l = c.loop-bucket in
    order_turn (keep_at c.args.members.now) c.args.assigned.now l.assigned
    c.keep_at.new.assigned l.bucket l.invariant c.keep_at.ensures
