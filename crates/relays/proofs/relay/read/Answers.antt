use Rattle.words.specs.Words.{words}
use Rattle.relays.proofs.Bag.{relay_read}
use Rattle.relays.proofs.relay.read.Goals as goal

pub returns : goal.returns
returns c =
    let part = c.bag_part in
    relay_read c.args.settings c.args.store.now c.requires.0 c.args.index c.requires.1 (words part.result.now) part.ensures.same
    c.relay_at.result c.relay_at.ensures
