use mathlib.Core.Path.{sym, ◌∙◌}
use mathlib.Core.Bool.{true, false}
use Rattle.words.specs.Words.{words}
use Rattle.layout.specs.Store.{decode}
use Rattle.records.specs.Records.{agreed_of}
use Rattle.mappings.proofs.Buckets.{InBucket, in_bucket}
use Rattle.relays.proofs.Delivering.{backup_down, room_decides}
use Rattle.relays.proofs.deliver.asks.Goals as goal
use Rattle.relays.proofs.deliver.asks.Goals.{After-agreed-agreed, After-takes}

read : (c : After-agreed-agreed) → InBucket (decode (words c.args.store.now)) c.args.settings.entries c.args.relay.block.0
    c.number-bucket.result (agreed_of c.agreed-agreed.result)
read c = in_bucket c.args.settings c.args.store.now c.requires c.args.relay.block.0 _ c.number-bucket.ensures.0 _ c.agreed-agreed.ensures

pub returns-then-not-up_member : goal.returns-then-not-up_member
returns-then-not-up_member c =
    backup_down _ c.args.relay _ _ _ (read (goal.at.returns-then-not-up_member c).After-agreed-agreed)
    (sym c.up_member.ensures ∙ c.if-not-up_member.true)

pub returns-then-takes : goal.returns-then-takes
returns-then-takes c =
    room_decides _ c.args.relay _ _ _ (read (goal.at.returns-then-takes c).After-agreed-agreed) (sym c.up_member.ensures ∙ c.if-not-up_member.false)
    true (sym c.takes.ensures ∙ c.if-takes.true)

pub returns-else-takes : goal.returns-else-takes
returns-else-takes c =
    room_decides _ c.args.relay _ _ _ (read (goal.at.returns-else-takes c).After-agreed-agreed) (sym c.up_member.ensures ∙ c.if-not-up_member.false)
    false (sym c.takes.ensures ∙ c.if-takes.false)
