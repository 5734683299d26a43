use native.Mathlib.Omega.{arith}
use lib.ListN.{length-set}
use Rattle.read_many.proofs.Head.{head_set}
use Rattle.read_many.proofs.set_head.Goals as goal

pub shape_of-answer : goal.shape_of-answer
shape_of-answer c = omega (arith, length-set c.args.answer.now 0 c.args.code)

pub returns : goal.returns
returns c =
    head_set c.args.code c.args.key c.args.answer.now _ c.requires.0 c.set_key.ensures
