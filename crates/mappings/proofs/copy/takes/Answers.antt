use Rattle.std.proofs.Common.{◌≡◌, true, ℕ, sym, ap, ◌∙◌, arith, rules, tests, lt-ltb}
use Rattle.lists.specs.Tests.{any, ◌or◌}
use Rattle.words.specs.Words.{words}
use Rattle.rules.specs.Entries.{has, takes}
use Rattle.layout.specs.Contents.{Brick}
use Rattle.layout.specs.Store.{decode}
use Rattle.lent.proofs.LookUps.{by_place}
use Rattle.mappings.proofs.copy.takes.Goals as goal

pub returns : goal.returns
unfolding takes has any ◌or◌
returns c =
    let a = c.args in
    let s = decode (words a.store.now) in
    let m = a.settings.entries in
    by_place a.settings s a.id c.place_of.result _ _ c.place_of.ensures c.is_none_or.ensures
    (λ p h q. let e : c.is_none_or.result ≡ takes m ((s.bucket a.bucket).memory (s.ids p)) a.block.0 = search (rules, tests) in e ∙ ap (λ (i : ℕ). takes m ((s.bucket a.bucket).memory i) a.block.0) h.here)
    (λ b e. let y : c.is_none_or.result ≡ true = search (rules, tests) in
    y ∙ sym (ap (λ (x : Brick). takes m (x.copies a.bucket).memory a.block.0) b ∙ lt-ltb 0 m (omega (arith, c.requires.0.limits.entries_from))))
