use mathlib.Core.Path.{◌≡◌}
use mathlib.Core.Bool.{false}
use Rattle.lists.proofs.Tests.{clash}
use Rattle.rules.specs.Derived.{up_member}
use Rattle.words.specs.Words.{words}
use Rattle.layout.specs.Store.{decode}
use Rattle.lent.specs.Places.{MemberAt}
use Rattle.recovery.proofs.member.place.Goals as goal

pub returns : goal.returns
returns c =
    let m : MemberAt c.args.settings (decode (words c.args.store.now)) c.args.id c.in-Some.place =
    rw c.in-Some.is at c.find_member.ensures in
    m.stands

pub unreachable-requires : goal.unreachable-requires
unreachable-requires c =
    let n : up_member (decode (words c.args.store.now)) c.args.id ≡ false = rw c.in-None.is at c.find_member.ensures in
    clash n c.requires.1
