use mathlib.Core.Path.{sym, ◌∙◌}
use native.Mathlib.Omega.{arith}
use Rattle.words.specs.Words.{words}
use Rattle.layout.specs.Store.{decode}
use Rattle.chunk_copy.proofs.Copies.{no_home, home_down, no_room, home_has, home_lacks}
use Rattle.chunk_copy.proofs.asks.Goals as goal

pub returns-then-home-eq0 : goal.returns-then-home-eq0
returns-then-home-eq0 c = no_home (decode (words c.args.store.now)) c.args.key.0 _ c.home-home.ensures c.if-home-eq0.true

pub returns-then-not-up_member : goal.returns-then-not-up_member
returns-then-not-up_member c =
    home_down (decode (words c.args.store.now)) c.args.key.0 _ c.home-home.ensures (omega arith) c.if-home-eq0.false
    (sym c.up_member.ensures ∙ c.if-not-up_member.true)

pub returns-then-not-has_room : goal.returns-then-not-has_room
returns-then-not-has_room c =
    no_room (decode (words c.args.store.now)) c.args.key.0 _ c.home-home.ensures (omega arith) c.if-home-eq0.false
    (sym c.up_member.ensures ∙ c.if-not-up_member.false) (sym c.has_room.ensures ∙ c.if-not-has_room.true)

pub returns-then-is_held : goal.returns-then-is_held
returns-then-is_held c =
    home_has (decode (words c.args.store.now)) c.args.key.0 _ c.home-home.ensures (omega arith) c.if-home-eq0.false
    (sym c.up_member.ensures ∙ c.if-not-up_member.false) (sym c.has_room.ensures ∙ c.if-not-has_room.false)
    (sym c.is_held.ensures ∙ c.if-is_held.true)

pub returns-else-is_held : goal.returns-else-is_held
returns-else-is_held c =
    home_lacks (decode (words c.args.store.now)) c.args.key.0 _ c.home-home.ensures (omega arith) c.if-home-eq0.false
    (sym c.up_member.ensures ∙ c.if-not-up_member.false) (sym c.has_room.ensures ∙ c.if-not-has_room.false)
    (sym c.is_held.ensures ∙ c.if-is_held.false)
