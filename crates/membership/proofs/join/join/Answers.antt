use mathlib.Core.Path.{◌≡◌, sym, ap, ◌∙◌}
use mathlib.Core.List.{List}
use Prim.Native.Nat.{ℕ, suc, ◌+◌, ◌-◌, ◌<◌}
use native.Mathlib.Numerals.{add-one}
use lib.ListN.{take, drop}
use borrow.Author.Rules.{rules}
use Rattle.std.proofs.lemmas.Result.{err_from_is_err_and}
use Rattle.words.specs.Words.{words}
use Rattle.rules.specs.Limits.{max_id}
use Rattle.rules.specs.Event.{Event}
use Rattle.rules.specs.Step.{rule}
use Rattle.codec.specs.Codec.{◌&◌}
use Rattle.layout.specs.Layout.{place_codec}
use Rattle.layout.specs.Store.{decode}
use Rattle.format.specs.First.{new_brick}
use Rattle.lent.proofs.Performs.{refused, accepted}
use Rattle.lent.proofs.Stores.{facts}
use Rattle.lent.proofs.LentPlace.{lent_place, part_changed}
use Rattle.membership.specs.Places.{joined_status}
use Rattle.membership.proofs.Asked.{join_yes}
use Rattle.membership.proofs.Places.{seat_changes, join_changes}
use Rattle.membership.proofs.join.join.Goals as goal
use Rattle.membership.proofs.join.join.Goals.{In_ok-asks}

-- there is such a place, and an id left
vacant : (c : In_ok-asks) → (c.args.place < c.args.settings.places) × ((decode (words c.args.store.now)).given < max_id)
vacant c = join_yes c.args.settings c.args.store.now c.requires c.args.place (sym c.in_ok-asks.ensures)

pub returns-in_err-asks : goal.returns-in_err-asks
unfolding rule
returns-in_err-asks c =
    let p = err_from_is_err_and c.from_residual.result c.from_residual.ensures.1 in
    rw (p.1, p.2) (refused (Event.join c.args.place) (words c.args.store.now) c.requires.sound _ c.in_err-asks.ensures)

pub overflow_add-id : goal.overflow_add-id
overflow_add-id c =
    let left = vacant (goal.at.overflow_add-id c).In_ok-asks in
    let given = c.given-id.ensures in search rules

pub span_of-from-requires : goal.span_of-from-requires
span_of-from-requires c = (c.requires.limits, (vacant (goal.at.span_of-from-requires c).In_ok-asks).0)

pub returns : goal.returns
unfolding rule
returns c =
    let place = lent_place c.requires c.span_of-from.ensures (vacant (goal.at.returns c).In_ok-asks).0 in
    let t = c.args.settings in
    let bs = c.args.store.now in
    let s = decode (words bs) in
    let from = c.span_of-from.result.from in
    let part : List ℕ = take (c.span_of-from.result.to - from) (drop from bs) in
    let id : c.given-id.result + 1 ≡ suc s.given = add-one c.given-id.result ∙ ap suc c.given-id.ensures in
    let made = c.place in
    let seat = part_changed place made.new.s (seat_changes s c.args.place (facts t bs c.requires).bricks.born) made.auto.s
    (made.ensures ∙ ap (λ (i : ℕ). (place_codec t).enc (i & new_brick joined_status) (words part)) id) in
    accepted (Event.join c.args.place) (words c.args.store.now) _ (sym c.in_ok-asks.ensures)
    (c.write.ensures ∙ join_changes (words bs) c.requires.sound c.args.place _ _ seat id)
