use Rattle.lists.specs.Tests.{◌and◌}
use Rattle.relay_list.proofs.Elements.{blank}
use Rattle.std.proofs.Common.{get_or}
use Rattle.relay_list.proofs.Records.{within_is, held_at, delivered, undelivered}
use Rattle.relay_list.proofs.deliver.Goals as goal

pub returns-then-index-count : goal.returns-then-index-count
unfolding ◌and◌
returns-then-index-count c =
    let count = c.args.count in
    let index = c.args.index in
    let list = c.args.list.now in
    let there = c.if-index-count.true in
    let inside = within_is index count list there in
    delivered count index list (get_or list index blank) c.close_gap.new.list there (held_at count index list inside.0 inside.1) c.close_gap.ensures

pub returns-else-index-count : goal.returns-else-index-count
unfolding ◌and◌
returns-else-index-count c = undelivered c.args.count c.args.index c.args.list.now c.if-index-count.false
