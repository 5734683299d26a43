use mathlib.Core.Path.{◌≡◌, sym, ap, ◌∙◌}
use mathlib.Core.List.{[]}
use Prim.Native.Nat.{ℕ}
use borrow.Author.Tests.{eq-eqb}
use Rattle.words.specs.Words.{words}
use Rattle.rules.specs.Upkeep.{of_first_two}
use Rattle.layout.specs.Store.{decode}
use Rattle.holders.specs.Members.{between, NextAt, begins_with}
use Rattle.holders.proofs.MembersFrom.{two_hit, two_miss, after_first}
use Rattle.holders.proofs.of_two.Goals as goal

pub returns-then-first-id : goal.returns-then-first-id
returns-then-first-id c =
    let state = decode (words c.args.store.now) in
    let n : NextAt c.args.settings state c.args.from c.args.to c.in-Some.place =
    rw c.in-Some.is at c.next_member.ensures in
    eq-eqb _ _ c.if-first-id.true ∙ sym (two_hit _ _ _ _ c.args.id n.list c.id-first.ensures c.if-first-id.true)

pub returns-else-first-id : goal.returns-else-first-id
returns-else-first-id c =
    let state = decode (words c.args.store.now) in
    let n : NextAt c.args.settings state c.args.from c.args.to c.in-Some.place =
    rw c.in-Some.is at c.next_member.ensures in
    c.is_first.ensures
    ∙ ap (λ (j : ℕ). begins_with c.args.id (between state j c.args.to)) (after_first _ _ c.id-first.ensures)
    ∙ sym (two_miss _ _ _ _ c.args.id n.list c.id-first.ensures c.if-first-id.false)

pub returns-in_default : goal.returns-in_default
unfolding of_first_two
returns-in_default c =
    let state = decode (words c.args.store.now) in
    let none : between state c.args.from c.args.to ≡ [] = rw c.in_default.is at c.next_member.ensures in
    sym (ap (of_first_two c.args.id) none)
