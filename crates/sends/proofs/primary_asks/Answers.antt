use mathlib.Core.Path.{◌≡◌, sym, ◌∙◌}
use mathlib.Core.List.{[], ◌∷◌}
use borrow.Author.Tests.{lt-ltb, le-ltb}
use Rattle.words.specs.Words.{words}
use Rattle.rules.specs.Numbers.{block_count}
use Rattle.rules.specs.Question.{◌asks◌, first_no, is_ready}
use Rattle.rules.proofs.Questions.{first_yes, first_stop, none_asked}
use Rattle.layout.specs.Store.{decode}
use Rattle.sends.specs.Asks.{primary_asks}
use Rattle.sends.proofs.primary_asks.Goals as goal
use Rattle.sends.proofs.primary_asks.Goals.{Else-not-primary_up}

pub returns-then-block-ge-BLOCKS : goal.returns-then-block-ge-BLOCKS
returns-then-block-ge-BLOCKS c =
    sym (first_stop 3 _ (le-ltb c.args.block.0 block_count c.if-block-ge-BLOCKS.true))

pub returns-then-not-primary_up : goal.returns-then-not-primary_up
returns-then-not-primary_up c =
    sym (first_yes 3 _ (lt-ltb c.args.block.0 block_count c.if-block-ge-BLOCKS.false)
    ∙ first_stop 6 _ (sym c.primary_up.ensures ∙ c.if-not-primary_up.true))

two_yes : (c : Else-not-primary_up) → let s = decode (words c.args.store.now) in
    first_no (primary_asks s c.args.block.0) ≡ first_no ((7 asks is_ready s c.args.block.0) ∷ [])
two_yes c =
    first_yes 3 _ (lt-ltb c.args.block.0 block_count c.if-block-ge-BLOCKS.false)
    ∙ first_yes 6 _ (sym c.primary_up.ensures ∙ c.if-not-primary_up.false)

pub returns-then-is_ready : goal.returns-then-is_ready
returns-then-is_ready c =
    sym (two_yes (goal.at.returns-then-is_ready c).Else-not-primary_up
    ∙ first_yes 7 [] (sym c.is_ready.ensures ∙ c.if-is_ready.true) ∙ none_asked)

pub returns-else-is_ready : goal.returns-else-is_ready
returns-else-is_ready c =
    sym (two_yes (goal.at.returns-else-is_ready c).Else-not-primary_up
    ∙ first_stop 7 [] (sym c.is_ready.ensures ∙ c.if-is_ready.false))
