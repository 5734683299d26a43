use Rattle.std.proofs.Common.{◌≡◌, ℕ, sym, ap, ◌∙◌, rules, tests}
use Rattle.words.specs.Words.{words}
use Rattle.rules.specs.Chunks.{held}
use Rattle.layout.specs.Store.{decode}
use Rattle.lent.proofs.LookUps.{by_place}
use Rattle.chunk_copy.proofs.Copies.{none_held}
use Rattle.chunk_copy.proofs.is_held.Goals as goal

pub returns : goal.returns
returns c =
    let a = c.args in
    let s = decode (words a.store.now) in
    by_place a.settings s a.id c.place_of-place.result _ _ c.place_of-place.ensures c.is_some_and.ensures
    (λ p h q. let e : c.is_some_and.result ≡ held (s.bricks.log (s.ids p)) a.key.0 = search (rules, tests) in e ∙ ap (λ (i : ℕ). held (s.bricks.log i) a.key.0) h.here)
    (λ b e. e ∙ sym (none_held a.settings s a.key.0 a.id b))
