use Rattle.words.specs.Words.{words}
use Rattle.layout.specs.Store.{decode}
use Rattle.holders.specs.Members.{ids, NextAt}
use Rattle.holders.proofs.MembersFrom.{begins, round_at}
use Rattle.holders.proofs.is_first_round.Goals as goal

pub returns-in-Some : goal.returns-in-Some
returns-in-Some c =
    let state = decode (words c.args.store.now) in
    let n : NextAt c.args.settings state c.args.from ids c.in-Some.place =
    rw c.in-Some.is at c.next_member.ensures in
    begins _ _ _ _ c.args.id (round_at c.args.settings state c.args.from c.args.home _ n) c.id.ensures
