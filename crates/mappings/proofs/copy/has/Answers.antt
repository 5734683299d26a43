use Rattle.std.proofs.Common.{◌≡◌, ℕ, sym, ap, ◌∙◌, rules, tests}
use Rattle.lists.specs.Tests.{any}
use Rattle.words.specs.Words.{words}
use Rattle.rules.specs.Entries.{has}
use Rattle.layout.specs.Contents.{Brick}
use Rattle.layout.specs.Store.{decode}
use Rattle.lent.proofs.LookUps.{by_place}
use Rattle.mappings.proofs.copy.has.Goals as goal

pub returns : goal.returns
unfolding has any
returns c =
    let a = c.args in
    let k = (decode (words a.store.now)).bucket a.bucket in
    by_place a.settings (decode (words a.store.now)) a.id c.place_of.result _ _ c.place_of.ensures c.is_some_and.ensures
    (λ p h q. let e : c.is_some_and.result ≡ has (k.memory ((decode (words a.store.now)).ids p)) a.block.0 = search (rules, tests) in e ∙ ap (λ (i : ℕ). has (k.memory i) a.block.0) h.here)
    (λ b e. e ∙ sym (ap (λ (x : Brick). has (x.copies a.bucket).memory a.block.0) b))
