use Rattle.std.proofs.Common.{◌≡◌, sym, ap, ◌∙◌, rules, tests}
use Rattle.words.specs.Words.{words}
use Rattle.rules.specs.Derived.{up_member}
use Rattle.layout.specs.Store.{decode}
use Rattle.lent.proofs.LookUps.{by_place, blank_down}
use Rattle.lent.proofs.brick.up_member.Goals as goal

pub returns : goal.returns
returns c =
    let s = decode (words c.args.store.now) in
    by_place c.args.settings s c.args.id c.place_of.result _ _ c.place_of.ensures c.is_some_and.ensures
    (λ p h q. let e : c.is_some_and.result ≡ up_member s (s.ids p) = search (rules, tests) in e ∙ ap (up_member s) h.here)
    (λ b e. e ∙ sym (blank_down s c.args.id b))
