use Rattle.std.proofs.Common.{◌≡◌, ℕ, sym, ap, ◌∙◌, rules, tests}
use Rattle.lists.specs.Tests.{any}
use Rattle.words.specs.Words.{words}
use Rattle.rules.specs.Entries.{has}
use Rattle.layout.specs.Contents.{Brick}
use Rattle.layout.specs.Store.{decode}
use Rattle.lent.proofs.LookUps.{by_place}
use Rattle.mappings.proofs.buffer.has.Goals as goal

pub returns : goal.returns
unfolding has any
returns c =
    let a = c.args in
    let s = decode (words a.store.now) in
    by_place a.settings s a.id c.place_of.result _ _ c.place_of.ensures c.is_some_and.ensures
    (λ p h q. let e : c.is_some_and.result ≡ has (s.bricks.buffer (s.ids p)) a.block.0 = search (rules, tests) in e ∙ ap (λ (i : ℕ). has (s.bricks.buffer i) a.block.0) h.here)
    (λ b e. e ∙ sym (ap (λ (x : Brick). has x.buffer a.block.0) b))
