use mathlib.Core.Path.{◌≡◌, sym, ap, ◌∙◌}
use mathlib.Core.Bool.{true, not}
use borrow.Author.Tests.{eq-eqb, ne_eqb}
use Rattle.words.specs.Words.{words}
use Rattle.rules.specs.Question.{is_place}
use Rattle.rules.proofs.Questions.{first_yes, first_stop, none_asked}
use Rattle.layout.specs.Store.{decode}
use Rattle.lent.proofs.Places.{no_place, is_place_yes}
use Rattle.membership.proofs.lose.asks.Goals as goal
use Rattle.membership.proofs.lose.asks.Goals.{Else-settings-place}

-- there is such a place
there : (c : Else-settings-place) → is_place (decode (words c.args.store.now)) c.args.place ≡ true
there c = is_place_yes c.args.settings c.args.store.now c.requires c.args.place c.if-settings-place.false

pub returns-then-settings-place : goal.returns-then-settings-place
returns-then-settings-place c = sym (first_stop 3 _ (no_place c.args.settings c.args.store.now c.requires c.args.place c.if-settings-place.true))

pub returns-then-id-eq0 : goal.returns-then-id-eq0
returns-then-id-eq0 c =
    let here = there (goal.at.returns-then-id-eq0 c).Else-settings-place in
    sym (first_yes 3 _ here ∙ first_stop 13 _ (ap not (eq-eqb _ 0 (sym c.id.ensures ∙ c.if-id-eq0.true))))

pub returns-else-id-eq0 : goal.returns-else-id-eq0
returns-else-id-eq0 c =
    let here = there (goal.at.returns-else-id-eq0 c).Else-settings-place in
    sym (first_yes 3 _ here ∙ first_yes 13 _ (ap not (ne_eqb _ 0 (λ z. c.if-id-eq0.false (c.id.ensures ∙ z)))) ∙ none_asked)
