use mathlib.Core.Path.{◌≡◌, ap, ◌∙◌}
use native.Mathlib.Omega.{arith}
use Rattle.words.specs.Words.{words}
use Rattle.rules.specs.State.{State}
use Rattle.layout.specs.Contents.{blank_brick}
use Rattle.layout.specs.Store.{brick_in, decode, render}
use Rattle.records.specs.Records.{agreed_of}
use Rattle.lent.specs.Places.{Stands}
use Rattle.mappings.proofs.Buckets.{InBucket, in_bucket}
use Rattle.maps.proofs.Mapping.{primary_stands, copy_takes, buffer_takes, mapped_entry, mapped_waiting}
use Rattle.maps.proofs.map.enter.Goals as goal
use Rattle.maps.proofs.map.enter.Goals.{After-agreed-agreed, In-Some}

-- what was read is the block's bucket and what is agreed of it
read : (c : After-agreed-agreed) → InBucket (decode (words c.args.store.now)) c.args.settings.entries c.args.block.0 c.number-bucket.result (agreed_of c.agreed-agreed.result)
read c = in_bucket c.args.settings c.args.store.now c.requires.0 c.args.block.0 _ c.number-bucket.ensures.0 _ c.agreed-agreed.ensures

-- the primary stands at the place that was found
stands : (c : In-Some) → Stands c.args.settings (decode (words c.args.store.now)) c.agreed-agreed.result.primary c.in-Some.place
stands c = rw c.in-Some.is at c.place_of.ensures

pub returns-in_default : goal.returns-in_default
returns-in_default c =
    let h : brick_in (decode (words c.args.store.now)) c.agreed-agreed.result.primary ≡ blank_brick = rw c.in_default.is at c.place_of.ensures in
    absurd (primary_stands _ _ c.requires.2 _ _ _ (read (goal.at.returns-in_default c).After-agreed-agreed) h)

pub insert-requires : goal.insert-requires
insert-requires c =
    let at = goal.at.insert-requires c in
    let h = stands at.In-Some in
    (c.requires.0, h.inside, c.number-bucket.ensures.1, omega (arith, h.some, h.here), copy_takes _ _ c.requires.2 _ _ _ (read at.After-agreed-agreed) _ h.here c.if-agreed.true)

pub returns-then-agreed : goal.returns-then-agreed
returns-then-agreed c =
    let at = goal.at.returns-then-agreed c in
    let item = c.item-key in
    c.insert.ensures
    ∙ ap (λ (t : State). render t (words c.args.store.now))
    (mapped_entry _ _ c.requires.2 _ _ _ (read at.After-agreed-agreed) _ (stands at.In-Some).here c.args.proxy item.result.0 item.ensures c.if-agreed.true)

pub append-requires : goal.append-requires
append-requires c =
    let at = goal.at.append-requires c in
    let h = stands at.In-Some in
    (c.requires.0, h.inside, omega (arith, h.some, h.here), buffer_takes _ _ c.requires.2 _ _ _ (read at.After-agreed-agreed) _ h.here c.if-agreed.false)

pub returns : goal.returns
returns c =
    let at = goal.at.returns c in
    let item = c.item-key in
    c.append.ensures
    ∙ ap (λ (t : State). render t (words c.args.store.now))
    (mapped_waiting _ _ c.requires.2 _ _ _ (read at.After-agreed-agreed) _ (stands at.In-Some).here c.args.proxy item.result.0 item.ensures c.if-agreed.false)
