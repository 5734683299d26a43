use mathlib.Core.Path.{◌≡◌, sym, ◌∙◌}
use mathlib.Core.List.{[], ◌∷◌}
use native.Mathlib.Omega.{arith}
use borrow.Author.Tests.{eq-eqb, ne_eqb, lt-ltb, le-ltb}
use Rattle.words.specs.Words.{words}
use Rattle.rules.specs.Limits.{max_id}
use Rattle.rules.specs.Derived.{is_empty}
use Rattle.rules.specs.Membership.{join_asks}
use Rattle.rules.specs.Question.{◌asks◌, first_no}
use Rattle.rules.proofs.Questions.{first_yes, first_stop, none_asked}
use Rattle.layout.specs.Store.{decode}
use Rattle.lent.proofs.Places.{no_place, is_place_yes}
use Rattle.membership.proofs.join.asks.Goals as goal
use Rattle.membership.proofs.join.asks.Goals.{Else-given-ge-MAX_ID}

-- there is such a place, and an id left
last : (c : Else-given-ge-MAX_ID) → let s = decode (words c.args.store.now) in
    first_no (join_asks s c.args.place) ≡ first_no ((13 asks is_empty s c.args.place) ∷ [])
last c =
    first_yes 3 _ (is_place_yes c.args.settings c.args.store.now c.requires c.args.place c.if-settings-place.false)
    ∙ first_yes 12 _ (lt-ltb _ max_id (omega (arith, c.if-given-ge-MAX_ID.false, c.given.ensures)))

pub returns-then-settings-place : goal.returns-then-settings-place
returns-then-settings-place c = sym (first_stop 3 _ (no_place c.args.settings c.args.store.now c.requires c.args.place c.if-settings-place.true))

pub returns-then-given-ge-MAX_ID : goal.returns-then-given-ge-MAX_ID
returns-then-given-ge-MAX_ID c =
    sym (first_yes 3 _ (is_place_yes c.args.settings c.args.store.now c.requires c.args.place c.if-settings-place.false)
    ∙ first_stop 12 _ (le-ltb (decode (words c.args.store.now)).given max_id (omega (arith, c.if-given-ge-MAX_ID.true, c.given.ensures))))

pub returns-then-id-eq0 : goal.returns-then-id-eq0
returns-then-id-eq0 c =
    sym (last (goal.at.returns-then-id-eq0 c).Else-given-ge-MAX_ID
    ∙ first_yes 13 _ (eq-eqb _ 0 (sym c.id.ensures ∙ c.if-id-eq0.true)) ∙ none_asked)

pub returns-else-id-eq0 : goal.returns-else-id-eq0
returns-else-id-eq0 c =
    sym (last (goal.at.returns-else-id-eq0 c).Else-given-ge-MAX_ID
    ∙ first_stop 13 _ (ne_eqb _ 0 (λ z. c.if-id-eq0.false (c.id.ensures ∙ z))))
