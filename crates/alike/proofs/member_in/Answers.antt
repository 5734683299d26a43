use mathlib.Core.Path.{◌≡◌, sym, ap, ◌∙◌}
use mathlib.Core.Bool.{not, true, false}
use Prim.Native.Nat.{ℕ}
use borrow.Author.Rules.{rules}
use borrow.Author.Tests.{tests}
use Rattle.lists.proofs.Tests.{or_l, or_no}
use Rattle.words.specs.Words.{words}
use Rattle.layout.specs.Store.{decode}
use Rattle.lent.proofs.Places.{member_up}
use Rattle.alike.proofs.member_in.Goals as goal

pub returns-then-not-is_member : goal.returns-then-not-is_member
returns-then-not-is_member c =
    let e : not c.is_member.result ≡ true = search (rules, tests) in
    e ∙ sym (or_l _ _ (ap not (sym c.is_member.ensures) ∙ e))

pub returns-else-not-is_member : goal.returns-else-not-is_member
returns-else-not-is_member c =
    let e : not c.is_member.result ≡ false = search (rules, tests) in
    c.up_member.ensures ∙ sym (member_up _ _ c.requires.0.second _) ∙ ap (λ (i : ℕ). (decode (words c.args.other.now)).bricks.member i) c.id.ensures
    ∙ sym (or_no _ _ (ap not (sym c.is_member.ensures) ∙ e))
