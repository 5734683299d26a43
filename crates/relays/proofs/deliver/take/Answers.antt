use mathlib.Core.Path.{ap, ◌∙◌}
use Prim.Native.Nat.{ℕ, ◌+◌}
use native.Mathlib.Omega.{arith}
use Rattle.words.specs.Words.{words}
use Rattle.layout.specs.Layout.{taken_at}
use Rattle.layout.specs.Store.{decode}
use Rattle.records.specs.Records.{agreed_of}
use Rattle.mappings.proofs.Buckets.{InBucket, in_bucket}
use Rattle.relays.proofs.Delivering.{backup_stands, copy_takes, Entered, entered_rule, bag_stays, delivered}
use Rattle.relays.proofs.deliver.take.Goals as goal
use Rattle.relays.proofs.deliver.take.Goals.{After-agreed-agreed, After-bag_span-span}

-- the block's bucket is read
read : (c : After-agreed-agreed) → InBucket (decode (words c.args.store.now)) c.args.settings.entries c.args.relay.block.0
    c.number-bucket.result (agreed_of c.agreed-agreed.result)
read c = in_bucket c.args.settings c.args.store.now c.requires.0 c.args.relay.block.0 _ c.number-bucket.ensures.0 _ c.agreed-agreed.ensures

-- the backup's memory has taken the block
entered : (c : After-bag_span-span) → Entered c.args.settings c.args.store.now c.args.index c.args.relay c.number-bucket.result
    c.bag_span-span.result.from c.bag_span-span.result.to c.insert.new.store
entered c =
    let bucket = in_bucket c.args.settings c.args.store.now c.requires.0 c.args.relay.block.0 _ c.number-bucket.ensures.0 _ c.agreed-agreed.ensures in
    record {
      store = c.requires.0;
      relay = c.requires.1;
      number = bucket.number;
      bucket = c.number-bucket.ensures.1;
      span = c.bag_span-span.ensures;
      entry = entered_rule _ c.args.relay _ _ _ bucket _ c.in-Some.ensures.here (words c.args.store.now) _ c.insert.ensures;
      size = c.insert.auto.store;
    }

pub returns-in_default : goal.returns-in_default
returns-in_default c =
    absurd (backup_stands _ c.args.relay _ _ _ (read (goal.at.returns-in_default c).After-agreed-agreed) c.args.index c.requires.1 c.in_default.ensures)

pub insert-requires : goal.insert-requires
insert-requires c =
    let h = c.in-Some.ensures in (
      c.requires.0,
      h.inside,
      c.number-bucket.ensures.1,
      omega (arith, h.some, h.here),
      copy_takes _ c.args.relay _ _ _ (read (goal.at.insert-requires c).After-agreed-agreed) c.args.index c.requires.1 _ h.here,
    )

pub remove-requires : goal.remove-requires
remove-requires c =
    let k = bag_stays (entered (goal.at.remove-requires c).After-bag_span-span) in
    record { table = k.table; i_bound = omega (arith, k.count, c.requires.1.found.inside) }

pub returns : goal.returns
returns c =
    let removed = c.remove in
    c.write.ensures
    ∙ delivered (entered (goal.at.returns c).After-bag_span-span) removed.new.t removed.auto.t removed.ensures _
    (ap (λ (j : ℕ). j + taken_at) c.agreed_at.ensures.0)
