use mathlib.Core.Path.{◌≡◌, sym, ap, ◌∙◌}
use Rattle.lists.specs.Tests.{◌or◌, all_below}
use Rattle.words.specs.Words.{words}
use Rattle.rules.specs.declared.settings.Settings.{Settings}
use Rattle.rules.specs.Limits.{buckets}
use Rattle.rules.specs.Derived.{is_empty, up_member, nothing_pending}
use Rattle.rules.proofs.Questions.{first_yes, first_stop, none_asked}
use Rattle.layout.specs.Store.{decode}
use Rattle.lent.proofs.Stores.{settings_are}
use Rattle.collect.proofs.idle_asks.Goals as goal
use Rattle.collect.proofs.idle_asks.Goals.{After-all_nothing_pending, After-all_up}

-- each question counts by the settings that were read
ups : (c : After-all_up) → let s = decode (words c.args.store.now) in
    all_below s.settings.places (λ p. is_empty s p or up_member s (s.ids p)) ≡ c.all_up.result
ups c =
    let s = decode (words c.args.store.now) in
    ap (λ (d : Settings). all_below d.places (λ p. is_empty s p or up_member s (s.ids p))) (settings_are c.args.settings c.args.store.now c.requires)
    ∙ sym c.all_up.ensures

calms : (c : After-all_nothing_pending) → let s = decode (words c.args.store.now) in
    all_below (buckets s.settings) (λ g. nothing_pending (s.bucket g)) ≡ c.all_nothing_pending.result
calms c =
    let s = decode (words c.args.store.now) in
    ap (λ (d : Settings). all_below (buckets d) (λ g. nothing_pending (s.bucket g))) (settings_are c.args.settings c.args.store.now c.requires)
    ∙ sym c.all_nothing_pending.ensures

pub returns-then-not-all_up : goal.returns-then-not-all_up
returns-then-not-all_up c = sym (first_stop 13 _ (ups (goal.at.returns-then-not-all_up c).After-all_up ∙ c.if-not-all_up.true))

pub returns-then-not-all_nothing_pending : goal.returns-then-not-all_nothing_pending
returns-then-not-all_nothing_pending c =
    let at = goal.at.returns-then-not-all_nothing_pending c in
    sym (first_yes 13 _ (ups at.After-all_up ∙ c.if-not-all_up.false)
    ∙ first_stop 13 _ (calms at.After-all_nothing_pending ∙ c.if-not-all_nothing_pending.true))

pub returns-then-no_items : goal.returns-then-no_items
returns-then-no_items c =
    let at = goal.at.returns-then-no_items c in
    sym (first_yes 13 _ (ups at.After-all_up ∙ c.if-not-all_up.false)
    ∙ first_yes 13 _ (calms at.After-all_nothing_pending ∙ c.if-not-all_nothing_pending.false)
    ∙ first_yes 13 _ (sym c.no_items.ensures ∙ c.if-no_items.true) ∙ none_asked)

pub returns-else-no_items : goal.returns-else-no_items
returns-else-no_items c =
    let at = goal.at.returns-else-no_items c in
    sym (first_yes 13 _ (ups at.After-all_up ∙ c.if-not-all_up.false)
    ∙ first_yes 13 _ (calms at.After-all_nothing_pending ∙ c.if-not-all_nothing_pending.false)
    ∙ first_stop 13 _ (sym c.no_items.ensures ∙ c.if-no_items.false))
