use Prim.Native.Nat.{◌+◌}
use native.Mathlib.Omega.{arith}
use lib.ListN.{length}
use Rattle.words.specs.Words.{words}
use Rattle.words.proofs.Laws.{room}
use Rattle.moves.proofs.Laws.{put_turn}
use Rattle.moves.proofs.put_words.Goals as goal

pub loop-i-preserved : goal.loop-i-preserved
loop-i-preserved c =
    cc (put_turn (words c.args.s.now) c.args.at c.args.list.now c.loop-i.i
    (room c.args.s.now (c.args.at + length c.args.list.now) c.requires) (omega arith))
