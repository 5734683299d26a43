use Rattle.lists.specs.Tests.{◌and◌}
use Rattle.relay_list.proofs.Records.{sent, unsent}
use Rattle.relay_list.proofs.send.Goals as goal

pub returns-then-count-list : goal.returns-then-count-list
unfolding ◌and◌
returns-then-count-list c = sent c.args.count c.args.relay c.args.list.now c.if-count-list.true

pub returns-else-count-list : goal.returns-else-count-list
unfolding ◌and◌
returns-else-count-list c = unsent c.args.count c.args.relay c.args.list.now c.if-count-list.false
