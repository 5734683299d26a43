use Rattle.std.proofs.Common.{◌≡◌, ℕ, sym, ap, ◌∙◌, rules, tests}
use Rattle.words.specs.Words.{words}
use Rattle.rules.specs.Entries.{key_for}
use Rattle.layout.specs.Contents.{Brick}
use Rattle.layout.specs.Store.{decode}
use Rattle.lent.proofs.LookUps.{by_place}
use Rattle.mappings.proofs.copy.in_memory.Goals as goal

pub returns : goal.returns
unfolding key_for
returns c =
    let a = c.args in
    let s = decode (words a.store.now) in
    by_place a.settings s a.id c.place_of.result _ _ c.place_of.ensures c.map_or.ensures
    (λ p h q. let e : c.map_or.result.0 ≡ key_for ((s.bucket a.bucket).memory (s.ids p)) a.block.0 = search (rules, tests) in e ∙ ap (λ (i : ℕ). key_for ((s.bucket a.bucket).memory i) a.block.0) h.here)
    (λ b e. let z : c.map_or.result.0 ≡ 0 = search rules in z ∙ sym (ap (λ (x : Brick). key_for (x.copies a.bucket).memory a.block.0) b))
