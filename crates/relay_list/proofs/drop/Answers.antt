use Rattle.lists.specs.Tests.{◌and◌}
use Rattle.relay_list.proofs.Records.{dropped, undropped}
use Rattle.relay_list.proofs.drop.Goals as goal

pub returns-then-index-count : goal.returns-then-index-count
unfolding ◌and◌
returns-then-index-count c = dropped c.args.count c.args.index c.args.list.now c.close_gap.new.list c.if-index-count.true c.close_gap.ensures

pub returns-else-index-count : goal.returns-else-index-count
unfolding ◌and◌
returns-else-index-count c = undropped c.args.count c.args.index c.args.list.now c.if-index-count.false
