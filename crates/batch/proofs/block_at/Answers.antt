use Prim.Native.Nat.{◌+◌}
use lib.ListN.{length}
use mathlib.Core.Path.{refl, sym, ◌∙◌}
use native.Mathlib.Omega.{arith}
use borrow.Author.Tests.{leb-true}
use Rattle.batch.proofs.Blocks.{block_there, block_none}
use Rattle.batch.proofs.block_at.Goals as goal

pub overflow_add-end : goal.overflow_add-end
overflow_add-end c =
    omega (arith, leb-true (c.args.at + c.args.size) (length c.args.bytes.now) (sym c.reaches.ensures ∙ c.if-reaches.true))

pub slice_bounds-result-end : goal.slice_bounds-result-end
slice_bounds-result-end c =
    omega (arith, leb-true (c.args.at + c.args.size) (length c.args.bytes.now) (sym c.reaches.ensures ∙ c.if-reaches.true))

pub returns-then-reaches : goal.returns-then-reaches
returns-then-reaches c =
    block_there _ _ _ (sym c.reaches.ensures ∙ c.if-reaches.true) _ refl

pub returns : goal.returns
returns c =
    block_none _ _ _ (sym c.reaches.ensures ∙ c.if-reaches.false)
