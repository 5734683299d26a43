use mathlib.Core.Path.{◌≡◌, sym, ap, ◌∙◌}
use mathlib.Core.Bool.{true}
use Prim.Native.Nat.{◌+◌, ◌<◌}
use native.Mathlib.Omega.{arith}
use lib.Dec.{ltb, leb}
use Rattle.lists.specs.Tests.{◌or◌}
use Rattle.lists.proofs.Tests.{and_l}
use Rattle.words.specs.Words.{words}
use Rattle.rules.specs.declared.settings.Settings.{Settings}
use Rattle.rules.specs.Limits.{ceiling_step}
use Rattle.rules.specs.Numbers.{sequences}
use Rattle.rules.specs.Derived.{up_member}
use Rattle.layout.specs.Contents.{Status}
use Rattle.layout.specs.Store.{decode}
use Rattle.lent.proofs.Places.{up_filled}
use Rattle.lent.proofs.Stores.{settings_are, facts}
use Rattle.writes.proofs.PutAsks.{no_member, item_there, items_full, log_full, number_left, no_number}
use Rattle.writes.proofs.put.store_asks.Goals as goal
use Rattle.writes.proofs.put.store_asks.Goals.{Else-not-up_member, Else-item_count, After-has_number}

live : (c : Else-not-up_member) → let s = decode (words c.args.store.now) in up_member s (s.ids c.args.place) ≡ true
live c = sym c.up_member.ensures ∙ c.if-not-up_member.false

filled : (c : Else-not-up_member) → 0 < (decode (words c.args.store.now)).ids c.args.place
filled c = up_filled c.args.settings c.args.store.now c.requires.0 c.args.place (and_l _ _ (live c))

pub returns-then-not-up_member : goal.returns-then-not-up_member
returns-then-not-up_member c = no_member (decode (words c.args.store.now)) c.args.proxy c.args.place c.args.block.0 (sym c.up_member.ensures ∙ c.if-not-up_member.true)

pub returns-then-has_item : goal.returns-then-has_item
returns-then-has_item c =
    item_there (decode (words c.args.store.now)) c.args.proxy c.args.place c.args.block.0 (live (goal.at.returns-then-has_item c).Else-not-up_member) (sym c.has_item.ensures ∙ c.if-has_item.true)

pub returns-then-item_count : goal.returns-then-item_count
returns-then-item_count c =
    items_full (decode (words c.args.store.now)) c.args.proxy c.args.place c.args.block.0 (live (goal.at.returns-then-item_count c).Else-not-up_member) (sym c.has_item.ensures ∙ c.if-has_item.false)
    (omega (arith, c.if-item_count.true, c.item_count.ensures))

pub chunk_count-requires : goal.chunk_count-requires
chunk_count-requires c = (c.requires.0, c.requires.2, filled (goal.at.chunk_count-requires c).Else-not-up_member)

pub returns-then-settings-chunk_count : goal.returns-then-settings-chunk_count
returns-then-settings-chunk_count c =
    let chunks_are = ap (λ (d : Settings). d.chunks) (settings_are c.args.settings c.args.store.now c.requires.0) in
    log_full (decode (words c.args.store.now)) c.args.proxy c.args.place c.args.block.0 (live (goal.at.returns-then-settings-chunk_count c).Else-not-up_member) (sym c.has_item.ensures ∙ c.if-has_item.false)
    (omega (arith, c.if-item_count.false, c.item_count.ensures)) (omega (arith, c.if-settings-chunk_count.true, c.chunk_count.ensures, chunks_are))

pub status-status-requires : goal.status-status-requires
status-status-requires c = (c.requires.0, c.requires.2, filled (goal.at.status-status-requires c).Else-not-up_member)

pub has_number-requires : goal.has_number-requires
has_number-requires c =
    let most = (facts c.args.settings c.args.store.now c.requires.0).numbers.most ((decode (words c.args.store.now)).ids c.args.place) in
    let ceiling = ap (λ (x : Status). x.ceiling) c.status-status.ensures in
    omega (arith, most, ceiling)

decided : (c : After-has_number) → let s = decode (words c.args.store.now) in
    let id = s.ids c.args.place in
    c.has_number.result ≡ (ltb (s.bricks.next id) (s.bricks.ceiling id) or leb (s.bricks.ceiling id + ceiling_step) sequences)
decided c = c.has_number.ensures ∙ ap (λ (x : Status). ltb x.next x.ceiling or leb (x.ceiling + ceiling_step) sequences) c.status-status.ensures

pub returns-then-has_number : goal.returns-then-has_number
returns-then-has_number c =
    let at = goal.at.returns-then-has_number c in
    let chunks_are = ap (λ (d : Settings). d.chunks) (settings_are c.args.settings c.args.store.now c.requires.0) in
    number_left (decode (words c.args.store.now)) c.args.proxy c.args.place c.args.block.0 (live at.Else-not-up_member) (sym c.has_item.ensures ∙ c.if-has_item.false)
    (omega (arith, c.if-item_count.false, c.item_count.ensures)) (omega (arith, c.if-settings-chunk_count.false, c.chunk_count.ensures, chunks_are))
    (decided at.After-has_number) c.if-has_number.true

pub returns-else-has_number : goal.returns-else-has_number
returns-else-has_number c =
    let at = goal.at.returns-else-has_number c in
    let chunks_are = ap (λ (d : Settings). d.chunks) (settings_are c.args.settings c.args.store.now c.requires.0) in
    no_number (decode (words c.args.store.now)) c.args.proxy c.args.place c.args.block.0 (live at.Else-not-up_member) (sym c.has_item.ensures ∙ c.if-has_item.false)
    (omega (arith, c.if-item_count.false, c.item_count.ensures)) (omega (arith, c.if-settings-chunk_count.false, c.chunk_count.ensures, chunks_are))
    (decided at.After-has_number) c.if-has_number.false
