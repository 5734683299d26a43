use mathlib.Core.Path.{sym, ◌∙◌}
use Rattle.lent.proofs.Stores.{bag_count}
use Rattle.lent.proofs.store.relay_count.Goals as goal

pub returns : goal.returns
returns c =
    c.read.ensures ∙ sym (bag_count c.args.settings c.args.store.now c.requires c.bag_at.result c.bag_at.ensures)
