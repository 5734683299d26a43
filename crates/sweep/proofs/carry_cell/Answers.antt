use native.Mathlib.Nat.{mul-le-mul_right}
use native.Mathlib.Omega.{arith}
use Rattle.words.specs.Words.{words}
use Rattle.sweep.proofs.Steps.{moved_by}
use Rattle.sweep.proofs.carry_cell.Goals as goal

pub carry-requires : goal.carry-requires
carry-requires c =
    let z = mul-le-mul_right c.args.width c.requires.0 in
    (omega arith, omega arith)

pub returns : goal.returns
returns c =
    moved_by c.args.chunks c.args.width c.args.i c.args.o c.offset-from.result c.offset-to.result
    (words c.args.log.now) (words c.carry.new.log) c.offset-from.ensures.0 c.offset-to.ensures.0
    c.carry.ensures
