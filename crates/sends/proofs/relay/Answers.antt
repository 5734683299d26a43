use mathlib.Core.Path.{ap, ◌∙◌}
use Prim.Native.Nat.{ℕ, ◌+◌}
use native.Mathlib.Omega.{arith}
use Rattle.words.specs.Words.{words}
use Rattle.layout.specs.Layout.{last_sent_at}
use Rattle.layout.specs.Store.{decode}
use Rattle.records.specs.Records.{agreed_of}
use Rattle.mappings.proofs.Buckets.{InBucket, in_bucket}
use Rattle.relays.proofs.Bag.{bag_lent}
use Rattle.sends.proofs.Sending.{order_left, relay_is, sent}
use Rattle.sends.proofs.relay.Goals as goal
use Rattle.sends.proofs.relay.Goals.{After-agreed-order}

read : (c : After-agreed-order) → InBucket (decode (words c.args.store.now)) c.args.settings.entries c.args.block.0
    c.number-bucket.result (agreed_of c.agreed-order.result)
read c = in_bucket c.args.settings c.args.store.now c.requires.0 c.args.block.0 _ c.number-bucket.ensures.0 _ c.agreed-order.ensures

pub overflow_add-order : goal.overflow_add-order
overflow_add-order c = omega (arith, order_left _ _ _ _ _ (read (goal.at.overflow_add-order c).After-agreed-order) c.requires.2)

pub append-requires : goal.append-requires
append-requires c =
    let k = bag_lent c.args.settings c.args.store.now c.requires.0 _ _ c.bag_span-from.ensures in
    record { table = k.table; t_bound = omega (arith, k.count, c.requires.1) }

pub returns : goal.returns
returns c =
    let k = read (goal.at.returns c).After-agreed-order in
    let appended = c.append in
    c.write.ensures
    ∙ sent c.args.settings c.args.store.now c.requires.0 _ _ c.bag_span-from.ensures c.args.block.0 _ k.number
    c.number-bucket.ensures.1 _
    (relay_is _ _ _ _ _ k _ _ c.view.ensures c.mapped-key.ensures) appended.new.t appended.auto.t
    appended.ensures _ (ap (λ (j : ℕ). j + last_sent_at) c.agreed_at.ensures.0)
