use mathlib.Core.Path.{◌≡◌, sym, ap, ap₂, ◌∙◌}
use mathlib.Core.Bool.{true}
use mathlib.Core.List.{[], ◌∷◌}
use Prim.Native.Nat.{ℕ, ◌*◌}
use native.Mathlib.Omega.{arith}
use lib.Dec.{ltb}
use borrow.Author.Tests.{lt-ltb, le-ltb}
use Rattle.lists.specs.Tests.{count_below}
use Rattle.lists.proofs.Tests.{count_at_most}
use Rattle.words.specs.Words.{words}
use Rattle.rules.specs.Limits.{max_view_or_order}
use Rattle.rules.specs.Derived.{is_up}
use Rattle.rules.specs.Question.{◌asks◌, first_no}
use Rattle.rules.specs.Views.{view_asks}
use Rattle.rules.proofs.Questions.{first_yes, first_stop, none_asked}
use Rattle.layout.specs.Store.{decode}
use Rattle.views.specs.Begin.{stayed}
use Rattle.views.proofs.Questions.{count_of}
use Rattle.views.proofs.view.asks.Goals as goal
use Rattle.views.proofs.view.asks.Goals.{After-count_up, After-started}

-- whether two bricks are up
up : (c : After-count_up) → let s = decode (words c.args.store.now) in ltb 1 (count_below s.settings.places (is_up s)) ≡ ltb 1 c.count_up.result
up c = ap (ltb 1) (sym (count_of c.args.settings c.args.store.now c.requires (is_up (decode (words c.args.store.now))) c.count_up.result c.count_up.ensures))

-- the question that is left once a number is left and two bricks are up
last : (c : After-started) → ltb 1 (count_below (decode (words c.args.store.now)).settings.places (is_up (decode (words c.args.store.now)))) ≡ ltb 1 c.count_up.result
    → first_no (view_asks (decode (words c.args.store.now))) ≡ first_no ((13 asks ltb c.started.result (2 * c.count_stayed-stayed.result)) ∷ [])
last c two =
    first_yes 12 _ (lt-ltb _ max_view_or_order (omega (arith, c.view.ensures, c.if-view-ge-MAX_VIEW_OR_ORDER.false)))
    ∙ first_yes 13 _ (two ∙ lt-ltb 1 c.count_up.result (omega (arith, c.if-count_up-le1.false)))
    ∙ ap₂ (λ (i j : ℕ). first_no ((13 asks ltb i (2 * j)) ∷ [])) (sym c.started.ensures)
    (sym (count_of c.args.settings c.args.store.now c.requires (stayed (decode (words c.args.store.now))) c.count_stayed-stayed.result c.count_stayed-stayed.ensures))

pub returns-then-view-ge-MAX_VIEW_OR_ORDER : goal.returns-then-view-ge-MAX_VIEW_OR_ORDER
returns-then-view-ge-MAX_VIEW_OR_ORDER c =
    sym (first_stop 12 _ (le-ltb (decode (words c.args.store.now)).view max_view_or_order
    (omega (arith, c.view.ensures, c.if-view-ge-MAX_VIEW_OR_ORDER.true))))

pub returns-then-count_up-le1 : goal.returns-then-count_up-le1
returns-then-count_up-le1 c =
    sym (first_yes 12 _ (lt-ltb _ max_view_or_order (omega (arith, c.view.ensures, c.if-view-ge-MAX_VIEW_OR_ORDER.false)))
    ∙ first_stop 13 _ (up (goal.at.returns-then-count_up-le1 c).After-count_up ∙ le-ltb 1 c.count_up.result c.if-count_up-le1.true))

pub overflow_mul-stayed : goal.overflow_mul-stayed
overflow_mul-stayed c =
    omega (arith, c.count_stayed-stayed.ensures, count_at_most c.args.settings.places (stayed (decode (words c.args.store.now))), c.requires.limits.places_to)

pub returns-then-stayed-started : goal.returns-then-stayed-started
returns-then-stayed-started c =
    let at = goal.at.returns-then-stayed-started c in
    sym (last at.After-started (up at.After-count_up)
    ∙ first_stop 13 _ (le-ltb c.started.result (2 * c.count_stayed-stayed.result) c.if-stayed-started.true))

pub returns-else-stayed-started : goal.returns-else-stayed-started
returns-else-stayed-started c =
    let at = goal.at.returns-else-stayed-started c in
    sym (last at.After-started (up at.After-count_up)
    ∙ first_yes 13 _ (lt-ltb c.started.result (2 * c.count_stayed-stayed.result) (omega (arith, c.if-stayed-started.false))) ∙ none_asked)
