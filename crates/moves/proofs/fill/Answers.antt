use Prim.Native.Nat.{◌+◌}
use native.Mathlib.Omega.{arith}
use Rattle.words.specs.Words.{words}
use Rattle.words.proofs.Laws.{room}
use Rattle.moves.proofs.Laws.{fill_turn}
use Rattle.moves.proofs.fill.Goals as goal

pub loop-i-preserved : goal.loop-i-preserved
loop-i-preserved c =
    cc (fill_turn (words c.args.s.now) c.args.at c.args.n c.args.v c.loop-i.i
    (room c.args.s.now (c.args.at + c.args.n) c.requires) (omega arith))
