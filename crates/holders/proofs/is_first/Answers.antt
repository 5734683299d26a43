use Rattle.std.proofs.Common.{◌≡◌, eqb, refl, sym, ap, ◌∙◌, rules, tests}
use Rattle.words.specs.Words.{words}
use Rattle.layout.specs.Store.{decode}
use Rattle.holders.specs.Members.{begins_with}
use Rattle.holders.proofs.MembersFrom.{begins}
use Rattle.holders.proofs.Cases.{by_member}
use Rattle.holders.proofs.is_first.Goals as goal

pub returns : goal.returns
unfolding begins_with
returns c =
    let s = decode (words c.args.store.now) in
    by_member c.args.settings s c.args.from c.args.to c.next_member.result _ _ c.next_member.ensures c.is_some_and.ensures
    (λ p n q. let e : c.is_some_and.result ≡ eqb (s.ids p) c.args.id = search (rules, tests) in e ∙ begins _ _ _ _ c.args.id n.list refl)
    (λ none e. e ∙ sym (ap (begins_with c.args.id) none))
