use Rattle.relays.proofs.Bag.{bag_lent}
use Rattle.relays.proofs.relay.bag_part.Goals as goal

pub returns : goal.returns
returns c = bag_lent c.args.settings c.args.store.now c.requires _ _ c.bag_span-from.ensures
