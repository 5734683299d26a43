use native.Mathlib.Omega.{arith}
use Rattle.rules.specs.Maps.{remove_at, drop_effect}
use Rattle.relays.proofs.Bag.{bag_lent, bag_becomes}
use Rattle.relays.proofs.relay.remove.Goals as goal

pub remove-requires : goal.remove-requires
remove-requires c =
    let k = bag_lent c.args.settings c.args.store.now c.requires.0 _ _ c.bag_span-from.ensures in record { table = k.table; i_bound = omega (arith, k.count, c.requires.1) }

pub returns : goal.returns
unfolding drop_effect
returns c =
    let removed = c.remove in
    bag_becomes c.args.settings c.args.store.now c.requires.0 _ _ c.bag_span-from.ensures
    (λ l. remove_at l c.args.index) removed.new.t
    removed.auto.t removed.ensures
