use mathlib.Core.Path.{◌≡◌, ap, ◌∙◌}
use mathlib.Core.List.{List}
use Prim.Native.Nat.{ℕ, ◌+◌, ◌*◌, min}
use native.Mathlib.Omega.{arith}
use lib.ListN.{drop}
use lib.Seq.{paste}
use Rattle.words.specs.Words.{words}
use Rattle.words.proofs.Laws.{room}
use Rattle.moves.proofs.Laws.{down_turn}
use Rattle.moves.proofs.move_down.Goals as goal

pub loop-block-preserved : goal.loop-block-preserved
loop-block-preserved c =
    let at = c.loop-block.block * 1024 in
    let full : min (c.loop-block.block * 1024) c.args.n ≡ c.loop-block.block * 1024 = omega arith in
    let more : c.loop-block.block * 1024 + c.min.result ≡ min ((c.loop-block.block + 1) * 1024) c.args.n = omega arith in
    c.move_block-in-loop-block.ensures
    ∙ ap (λ (w : List ℕ). paste w (c.args.to + at) (drop (c.args.from + at) w) c.min.result) (rw full at c.loop-block.invariant)
    ∙ rw more at (down_turn (words c.args.s.now) c.args.from c.args.to c.args.n at c.min.result
    c.requires.0 (room c.args.s.now (c.args.from + c.args.n) c.requires.1) (omega arith))
