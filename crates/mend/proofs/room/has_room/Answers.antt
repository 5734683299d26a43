use mathlib.Core.Path.{◌≡◌, sym, ◌∙◌}
use Prim.Native.Nat.{◌+◌, ◌-◌}
use native.Mathlib.Omega.{arith}
use lib.ListN.{length}
use Rattle.words.specs.Words.{words}
use Rattle.layout.specs.Store.{decode}
use Rattle.lent.proofs.Stores.{settings_are}
use Rattle.mend.specs.Fit.{log_of}
use Rattle.mend.proofs.OnStore.{stands}
use Rattle.mend.proofs.Counting.{log_count, room_is, room_enough}
use Rattle.mend.proofs.room.has_room.Goals as goal

pub log-requires : goal.log-requires
log-requires c =
    let t = c.requires.there in
    (t.store, t.inside, stands c.args.settings c.args.store.now c.args.place t)

pub read-held-requires : goal.read-held-requires
read-held-requires c = omega (arith, c.log.ensures.log.size)

pub overflow_sub-room : goal.overflow_sub-room
overflow_sub-room c = omega (arith, c.read-held.ensures, c.log.ensures.log.few)

pub returns-then-named_count-room : goal.returns-then-named_count-room
returns-then-named_count-room c =
    let count : let a = c.args in c.read-held.result ≡ length (log_of a.place (words a.store.now)) = log_count c.args.settings _ _ c.log.ensures _ c.read-held.ensures in
    let left : let a = c.args in c.read-held.result + (a.settings.chunks - c.read-held.result) ≡ a.settings.chunks = omega (arith, c.read-held.ensures, c.log.ensures.log.few) in
    let a = c.args in
    let t = decode (words a.store.now) in
    sym (room_enough a.settings t (t.ids a.place) _ _ (settings_are a.settings a.store.now c.requires.there.store) (count) (left)
    (omega (arith, c.named_count.ensures, c.if-named_count-room.true)))

pub returns : goal.returns
returns c =
    let count : let a = c.args in c.read-held.result ≡ length (log_of a.place (words a.store.now)) = log_count c.args.settings _ _ c.log.ensures _ c.read-held.ensures in
    let left : let a = c.args in c.read-held.result + (a.settings.chunks - c.read-held.result) ≡ a.settings.chunks = omega (arith, c.read-held.ensures, c.log.ensures.log.few) in
    let a = c.args in
    let t = decode (words a.store.now) in
    c.at_most.ensures
    ∙ room_is a.settings t (t.ids a.place) _ _ (settings_are a.settings a.store.now c.requires.there.store) (count) (left)
