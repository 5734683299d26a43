use mathlib.Core.Path.{◌≡◌}
use Prim.Native.Nat.{◌+◌, ◌-◌, ◌*◌, min}
use lib.ListN.{drop}
use lib.Seq.{paste}
use Rattle.words.specs.Words.{words}
use Rattle.moves.proofs.move_up.Given as goal

abbrev pub invariant-loop-block : goal.invariant-loop-block
invariant-loop-block l =
    words l.s ≡ paste (words l.initial.s) (l.to + min (l.block * 1024) l.n) (drop (l.from + min (l.block * 1024) l.n) (words l.initial.s)) (l.n - min (l.block * 1024) l.n)
