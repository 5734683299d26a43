use mathlib.Core.Path.{◌≡◌, sym, ap, ◌∙◌}
use mathlib.Core.List.{[]}
use Prim.Native.Nat.{ℕ}
use borrow.Author.Tests.{eq-eqb}
use Rattle.words.specs.Words.{words}
use Rattle.rules.specs.Upkeep.{of_first_two}
use Rattle.layout.specs.Store.{decode}
use Rattle.holders.specs.Members.{ids, between, NextAt, round, begins_with}
use Rattle.holders.proofs.MembersFrom.{two_hit, two_miss, round_at, round_none, after_first, all_members_from}
use Rattle.holders.proofs.of_first_two.Goals as goal

pub returns-then-first-id : goal.returns-then-first-id
returns-then-first-id c =
    let state = decode (words c.args.store.now) in
    let home = c.home-home in
    let n : NextAt c.args.settings state home.result ids c.in-Some.place =
    rw c.in-Some.is at c.next_member.ensures in
    let all = all_members_from _ c.args.store.now c.requires home.result c.args.key.0 home.ensures in
    eq-eqb _ _ c.if-first-id.true ∙ sym (two_hit _ _ _ _ c.args.id (all ∙ round_at c.args.settings state home.result home.result _ n) c.id-first.ensures c.if-first-id.true)

pub returns-else-first-id : goal.returns-else-first-id
returns-else-first-id c =
    let state = decode (words c.args.store.now) in
    let home = c.home-home in
    let n : NextAt c.args.settings state home.result ids c.in-Some.place =
    rw c.in-Some.is at c.next_member.ensures in
    let all = all_members_from _ c.args.store.now c.requires home.result c.args.key.0 home.ensures in
    c.is_first_round.ensures
    ∙ ap (λ (j : ℕ). begins_with c.args.id (round state j home.result)) (after_first _ _ c.id-first.ensures)
    ∙ sym (two_miss _ _ _ _ c.args.id (all ∙ round_at c.args.settings state home.result home.result _ n) c.id-first.ensures
    c.if-first-id.false)

pub returns-in-None : goal.returns-in-None
returns-in-None c =
    let state = decode (words c.args.store.now) in
    let home = c.home-home in
    let none : between state home.result ids ≡ [] = rw c.in-None.is at c.next_member.ensures in
    c.of_two.ensures
    ∙ sym (ap (of_first_two c.args.id)
    (all_members_from _ c.args.store.now c.requires home.result c.args.key.0 home.ensures
    ∙ round_none c.args.settings state home.result home.result none))
