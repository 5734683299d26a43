use Rattle.std.proofs.Common.{◌≡◌, true, false, rules, tests}
use Rattle.std.proofs.lemmas.Iterator.{first_from_Range}
use Rattle.words.specs.Words.{words}
use Rattle.layout.specs.Store.{decode}
use Rattle.holders.specs.Members.{member_saved}
use Rattle.holders.proofs.Cases.{saved_found}
use Rattle.holders.proofs.next_saved.Goals as goal

pub returns : goal.returns
returns c =
    let s = decode (words c.args.store.now) in
    saved_found c.args.settings s c.args.key.0 c.args.from c.find.result
    (first_from_Range _ _ _ _ (λ p. member_saved s c.args.key.0 p ≡ true) (λ p. member_saved s c.args.key.0 p ≡ false) c.find.ensures.ran (λ x q k. search (rules, tests)) (λ x q k. search (rules, tests)))
