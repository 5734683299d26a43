use native.Mathlib.Omega.{arith}
use Rattle.read_many.proofs.Answers.{too_many, few-enough, room_small}
use Rattle.read_many.proofs.fits.Goals as goal

pub returns-then-blocks-gt-MAX_BLOCKS : goal.returns-then-blocks-gt-MAX_BLOCKS
returns-then-blocks-gt-MAX_BLOCKS c = too_many _ _ _ c.if-blocks-gt-MAX_BLOCKS.true

pub overflow_mul-result : goal.overflow_mul-result
overflow_mul-result c = omega (arith, room_small c.args.size c.args.blocks c.requires c.if-blocks-gt-MAX_BLOCKS.false)

pub returns : goal.returns
returns c = few-enough _ _ _ (omega arith)
