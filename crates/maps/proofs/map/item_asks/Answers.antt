use Rattle.std.proofs.lemmas.Result.{err_from_is_err_and}
use mathlib.Core.Path.{◌≡◌, refl, sym, ap, ◌∙◌}
use mathlib.Core.List.{[], ◌∷◌}
use Rattle.lists.specs.Tests.{◌and◌}
use Rattle.words.specs.Words.{words}
use Rattle.rules.specs.Derived.{saved_twice}
use Rattle.rules.specs.Question.{◌asks◌, first_no}
use Rattle.rules.proofs.Refusals.{refuses_there}
use Rattle.rules.proofs.Questions.{first_yes, first_stop, none_asked, goes_on}
use Rattle.layout.specs.Store.{decode}
use Rattle.maps.specs.Asks.{room_asks, item_asks}
use Rattle.maps.proofs.map.item_asks.Goals as goal
use Rattle.maps.proofs.map.item_asks.Goals.{After-saved_twice}

pub returns-then-not-has_item : goal.returns-then-not-has_item
returns-then-not-has_item c = sym (first_stop 9 _ (sym c.has_item.ensures ∙ c.if-not-has_item.true))

pub returns-in_err-room_asks : goal.returns-in_err-room_asks
unfolding ◌and◌
returns-in_err-room_asks c =
    let p = err_from_is_err_and c.from_residual.result c.from_residual.ensures.1 in
    rw (p.1, p.2) (refuses_there (room_asks (decode (words c.args.store.now)) c.args.block.0) _ _ c.in_err-room_asks.ensures
    ∙ sym (first_yes 9 _ (sym c.has_item.ensures ∙ c.if-not-has_item.false)))

decided : (c : After-saved_twice) → first_no ((11 asks c.saved_twice.result) ∷ []) ≡ first_no (item_asks (decode (words c.args.store.now)) c.args.proxy c.args.block.0)
unfolding ◌and◌
decided c =
    let state = decode (words c.args.store.now) in
    goes_on (room_asks state c.args.block.0) _ refl c.in_ok-room_asks.ensures refl
    (ap (λ y. first_no ((11 asks y) ∷ [])) (c.saved_twice.ensures ∙ ap (saved_twice state) c.item.ensures))
    ∙ sym (first_yes 9 _ (sym c.has_item.ensures ∙ c.if-not-has_item.false))

pub returns-then-saved_twice : goal.returns-then-saved_twice
returns-then-saved_twice c =
    sym (first_yes 11 [] c.if-saved_twice.true ∙ none_asked) ∙ decided (goal.at.returns-then-saved_twice c).After-saved_twice

pub returns-else-saved_twice : goal.returns-else-saved_twice
returns-else-saved_twice c =
    sym (first_stop 11 [] c.if-saved_twice.false) ∙ decided (goal.at.returns-else-saved_twice c).After-saved_twice
