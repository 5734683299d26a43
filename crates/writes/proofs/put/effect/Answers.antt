use mathlib.Core.Path.{◌≡◌, refl, ap, ◌∙◌}
use mathlib.Core.List.{List, ◌++◌}
use Prim.Native.Nat.{ℕ, ◌+◌, ◌*◌, ◌-◌, ◌<◌}
use native.Mathlib.Omega.{arith}
use lib.ListN.{take, drop}
use Rattle.words.specs.Words.{words}
use Rattle.rules.specs.Numbers.{key_of}
use Rattle.rules.specs.Writes.{new_key}
use Rattle.codec.specs.Codec.{change}
use Rattle.layout.specs.Contents.{Status}
use Rattle.layout.specs.Layout.{place_codec, items_codec}
use Rattle.layout.specs.Store.{decode, render}
use Rattle.lent.proofs.LentPlace.{LentPlace, lent_place, part_filled, back_length, part_changed}
use Rattle.writes.specs.Puts.{put_in, put_bricks}
use Rattle.writes.proofs.Puts.{PutMay, put_may, put_fits, put_changes, items_take, item_added}
use Rattle.writes.proofs.put.effect.Goals as goal
use Rattle.writes.proofs.put.effect.Goals.{Start, After-new-key, After-span_of-from, After-put_place}

-- the questions were answered yes
may : (c : Start) → PutMay c.args.settings (decode (words c.args.store.now)) c.args.proxy c.args.place c.args.block.0 c.args.bytes.now
may c = put_may c.args.settings c.args.store.now c.requires.0 c.args.proxy c.args.place c.args.block.0 c.args.bytes.now c.requires.1

key : (c : After-new-key) → let s = decode (words c.args.store.now) in c.new-key.result.0 ≡ new_key s (s.ids c.args.place)
key c =
    let s = decode (words c.args.store.now) in
    let status = c.status-status in
    c.new-key.ensures ∙ ap (λ (i : ℕ). key_of i status.result.next) c.id-id.ensures
    ∙ ap (λ (r : Status). key_of (s.ids c.args.place) r.next) status.ensures

place : (c : After-span_of-from) → c.args.place < c.args.settings.places
    → LentPlace c.args.store.now c.args.settings c.args.place c.span_of-from.result.from c.span_of-from.result.to
place c h = lent_place c.requires.0 c.span_of-from.ensures h

-- the store once its place has changed
abbrev stored : After-put_place → List ℕ
stored c =
    let span = c.span_of-from.result in
    take span.from c.args.store.now ++ (c.put_place.new.part ++ drop (span.to - span.from) (drop span.from c.args.store.now))

same : (c : After-put_place) → LentPlace c.args.store.now c.args.settings c.args.place c.span_of-from.result.from c.span_of-from.result.to
    → PutMay c.args.settings (decode (words c.args.store.now)) c.args.proxy c.args.place c.args.block.0 c.args.bytes.now
    → let s = decode (words c.args.store.now) in
    c.new-key.result.0 ≡ new_key s (s.ids c.args.place) → words (stored c) ≡ render (put_bricks s (s.ids c.args.place) c.args.bytes.now) (words c.args.store.now)
same c place may key =
    let span = c.span_of-from.result in
    let part : List ℕ = take (span.to - span.from) (drop span.from c.args.store.now) in
    part_changed place c.put_place.new.part (put_changes _ c.args.place (part_filled place may.filled) c.args.bytes.now)
    c.put_place.auto.part
    (c.put_place.ensures ∙ ap (λ (k : ℕ). change (place_codec c.args.settings) (put_in k c.args.bytes.now) (words part)) key)

pub id-id-requires : goal.id-id-requires
id-id-requires c = (c.requires.0, (may (goal.at.id-id-requires c).Start).place_in)

pub status-status-requires : goal.status-status-requires
status-status-requires c = let may = may (goal.at.status-status-requires c).Start in (c.requires.0, may.place_in, may.filled)

pub new-key-requires : goal.new-key-requires
new-key-requires c =
    let may = may (goal.at.new-key-requires c).Start in
    (omega (arith, c.id-id.ensures, may.named), omega (arith, ap (λ (s : Status). s.next) c.status-status.ensures, may.next))

pub span_of-from-requires : goal.span_of-from-requires
span_of-from-requires c = (c.requires.0.limits, (may (goal.at.span_of-from-requires c).Start).place_in)

pub put_place-requires : goal.put_place-requires
put_place-requires c =
    let at = goal.at.put_place-requires c in
    put_fits (place at.After-span_of-from (may at.Start).place_in) (may at.Start)

pub insert-requires : goal.insert-requires
insert-requires c =
    let at = goal.at.insert-requires c in
    let may = may at.Start in
    let place = place at.After-span_of-from may.place_in in
    let same = same at.After-put_place place may (key at.After-new-key) in
    let long = back_length place c.put_place.new.part c.put_place.auto.part in
    let items = c.items_at-at in
    let o = 8 * items.result in
    let fit = items_take c.requires.0 may (stored at.After-put_place) same long o (o + 8 * items_codec.size) (omega (arith, items.ensures.0)) refl (omega arith) in
    record { sorted = fit.0; b_value = fit.1 }

pub returns : goal.returns
returns c =
    let at = goal.at.returns c in
    let may = may at.Start in
    let key = key at.After-new-key in
    let place = place at.After-span_of-from may.place_in in
    let same = same at.After-put_place place may key in
    let long = back_length place c.put_place.new.part c.put_place.auto.part in
    let items = c.items_at-at in
    let o = 8 * items.result in
    let done = c.insert in
    record {
      given = key;
      leaves = item_added c.requires.0 may (stored at.After-put_place) same long o (o + 8 * items_codec.size) (omega (arith, items.ensures.0)) refl
          c.new-key.result.0 key done.new.t (omega arith) done.ensures;
    }
