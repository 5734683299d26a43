use Rattle.std.proofs.Common.{◌≡◌, arith, rules, tests}
use Rattle.std.proofs.lemmas.Iterator.{first_from_Range}
use Rattle.words.specs.Words.{words}
use Rattle.layout.specs.Store.{decode}
use Rattle.lent.proofs.Places.{nowhere}
use Rattle.lent.proofs.LookUps.{place_found}
use Rattle.lent.proofs.brick.place_of.Goals as goal

pub returns-then-id-eq0 : goal.returns-then-id-eq0
returns-then-id-eq0 c =
    nowhere _ c.args.store.now c.requires c.args.id (λ p l e o. omega (arith, c.if-id-eq0.true))

pub returns : goal.returns
returns c =
    let s = decode (words c.args.store.now) in
    place_found _ c.args.store.now c.requires c.args.id (omega arith) c.find.result
    (first_from_Range _ _ _ _ (λ p. s.ids p ≡ c.args.id) (λ p. s.ids p ≡ c.args.id → ⊥) c.find.ensures.ran (λ x q k. search (rules, tests)) (λ x q k. search (rules, tests)))
