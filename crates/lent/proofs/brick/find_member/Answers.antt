use Rattle.std.proofs.Common.{rules, tests}
use Rattle.words.specs.Words.{words}
use Rattle.layout.specs.Store.{decode}
use Rattle.lent.proofs.LookUps.{by_place, member_found, member_nowhere}
use Rattle.lent.proofs.brick.find_member.Goals as goal

pub returns : goal.returns
returns c =
    let s = decode (words c.args.store.now) in
    by_place c.args.settings s c.args.id c.place_of.result _ _ c.place_of.ensures c.filter.ensures
    (λ p h q. member_found c.args.settings s c.args.id p h q.0 c.filter.result (search (rules, tests)) (search rules))
    (λ b e. member_nowhere c.args.settings s c.args.id c.filter.result b e)
