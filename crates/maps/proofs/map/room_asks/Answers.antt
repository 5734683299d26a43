use mathlib.Core.Path.{◌≡◌, sym, ap, ◌∙◌}
use mathlib.Core.Bool.{Bool, cond}
use Rattle.words.specs.Words.{words}
use Rattle.rules.specs.Question.{first_no}
use Rattle.layout.specs.Store.{decode}
use Rattle.records.specs.Records.{agreed_of}
use Rattle.mappings.proofs.Buckets.{InBucket, in_bucket}
use Rattle.maps.specs.Asks.{room_asks}
use Rattle.maps.proofs.Mapping.{room_ready, room_waiting}
use Rattle.maps.proofs.map.room_asks.Goals as goal
use Rattle.maps.proofs.map.room_asks.Goals.{Joined-agreed, then-agreed, else-agreed}

decided : (c : Joined-agreed) → first_no (room_asks (decode (words c.args.store.now)) c.args.block.0) ≡ cond c.if-agreed.room 0 10
decided c =
    let read : InBucket (decode (words c.args.store.now)) c.args.settings.entries c.args.block.0 c.number-bucket.result (agreed_of c.agreed-agreed.result) =
    in_bucket c.args.settings c.args.store.now c.requires c.args.block.0 _ c.number-bucket.ensures.0 _ c.agreed-agreed.ensures in
    elim c.if-agreed.branch [
      | then-agreed w ↦ room_ready _ _ _ _ _ read w.if-agreed.true _ (w.room-is ∙ w.takes-room.ensures)
      | else-agreed w ↦ room_waiting _ _ _ _ _ read w.if-agreed.false _ (w.room-is ∙ w.has_room-room.ensures)
    ]

pub returns-then-room : goal.returns-then-room
returns-then-room c = sym (decided (goal.at.returns-then-room c).Joined-agreed ∙ ap (λ (x : Bool). cond x 0 10) c.if-room.true)

pub returns-else-room : goal.returns-else-room
returns-else-room c = sym (decided (goal.at.returns-else-room c).Joined-agreed ∙ ap (λ (x : Bool). cond x 0 10) c.if-room.false)
