use mathlib.Core.Path.{sym, ap, ◌∙◌}
use Prim.Native.Nat.{ℕ}
use borrow.Author.Tests.{eq-eqb, ne_eqb}
use Rattle.lists.proofs.Tests.{both, no_first, no_second}
use Rattle.words.specs.Words.{words}
use Rattle.rules.specs.Call.{is_zero_block}
use Rattle.layout.specs.Store.{decode}
use Rattle.reads.proofs.Outcomes.{size_is, not_lent, lent}
use Rattle.reads.proofs.get_into.Goals as goal

pub returns-then-not-is_zero_block : goal.returns-then-not-is_zero_block
returns-then-not-is_zero_block c =
    let size = size_is c.args.settings c.args.store.now c.requires in
    not_lent (decode (words c.args.store.now)) c.args.proxy c.args.block c.args.blank.now c.args.area.now
    (no_first _ _ (ap (λ (n : ℕ). is_zero_block n c.args.blank.now) (sym size) ∙ sym c.is_zero_block.ensures ∙ c.if-not-is_zero_block.true))

pub returns-then-area-settings : goal.returns-then-area-settings
returns-then-area-settings c =
    let size = size_is c.args.settings c.args.store.now c.requires in
    not_lent (decode (words c.args.store.now)) c.args.proxy c.args.block c.args.blank.now c.args.area.now
    (no_second _ _ (ne_eqb _ _ (λ q. c.if-area-settings.true (q ∙ sym size))))

pub returns : goal.returns
returns c =
    let size = size_is c.args.settings c.args.store.now c.requires in
    lent (decode (words c.args.store.now)) c.args.proxy c.args.block c.args.blank.now c.args.area.now
    (both _ _
    (ap (λ (n : ℕ). is_zero_block n c.args.blank.now) (sym size) ∙ sym c.is_zero_block.ensures ∙ c.if-not-is_zero_block.false)
    (eq-eqb _ _ (c.if-area-settings.false ∙ size))) c.fill_block.ensures
