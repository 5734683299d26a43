use Rattle.std.proofs.Common.{◌+◌, sym, subst, rules, tests}
use Rattle.words.specs.Words.{words}
use Rattle.rules.specs.Writes.{target}
use Rattle.layout.specs.Store.{decode}
use Rattle.holders.specs.Members.{ids, Chosen, NextIn}
use Rattle.holders.proofs.MembersFrom.{target_above, target_below}
use Rattle.holders.proofs.Cases.{by_member}
use Rattle.holders.proofs.target.Goals as goal

pub returns : goal.returns
returns c =
    let s = decode (words c.args.store.now) in
    let home = c.home-home in
    by_member c.args.settings s (home.result + 1) ids c.next_member.result _ _ c.next_member.ensures c.or_else.ensures
    (λ p n e. subst (Chosen c.args.settings s (target s c.args.key.0)) (sym e) (target_above _ c.args.store.now c.requires c.args.key.0 home.result home.ensures p n))
    (λ none q. let n : NextIn c.args.settings s 0 home.result c.or_else.result = search (rules, tests) in
    target_below _ c.args.store.now c.requires c.args.key.0 home.result home.ensures none c.or_else.result n)
