use native.Mathlib.Omega.{arith}
use lib.ListN.{length-take}
use Rattle.rules.proofs.Limits.{few_buckets}
use Rattle.words.specs.Words.{words}
use Rattle.layout.specs.Store.{decode}
use Rattle.lent.proofs.Stores.{settings_are}
use Rattle.views.proofs.Counts.{view_pairs_are}
use Rattle.views.proofs.assigned.view_pairs.Goals as goal

pub assign-requires : goal.assign-requires
assign-requires c =
    let few = few_buckets c.args.settings in
    (omega arith, omega (arith, few, c.buckets.ensures), omega (arith, length-take c.up_ids-count.result c.up_ids-count.new.ids))

pub returns : goal.returns
returns c =
    let s = decode (words c.args.store.now) in
    view_pairs_are s c.args.settings (settings_are c.args.settings c.args.store.now c.requires.0) c.buckets.result
    c.buckets.ensures
    _ _ _ c.up_ids-count.ensures.1 c.last_pairs.ensures c.assign.ensures
