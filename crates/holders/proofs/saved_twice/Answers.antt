use Rattle.std.proofs.Common.{sym, ◌∙◌, arith}
use Rattle.words.specs.Words.{words}
use Rattle.layout.specs.Store.{decode}
use Rattle.holders.specs.Members.{NextSavedAt}
use Rattle.holders.proofs.Saved.{nowhere_else, second_found}
use Rattle.holders.proofs.saved_twice.Goals as goal

pub returns-in_default : goal.returns-in_default
returns-in_default c =
    let none = rw c.in_default.is at c.next_saved.ensures in
    sym (nowhere_else _ c.args.store.now c.requires c.args.key.0 0 (λ q l _. none q l (omega arith)))

pub returns : goal.returns
returns c =
    let first : NextSavedAt c.args.settings (decode (words c.args.store.now)) c.args.key.0 0 c.in-Some.first = rw c.in-Some.is at c.next_saved.ensures in
    c.is_some.ensures ∙ sym (second_found _ c.args.store.now c.requires c.args.key.0 c.in-Some.first _ first (omega arith) (omega arith) c.next_saved-2.result c.next_saved-2.ensures)
