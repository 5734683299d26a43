use Rattle.std.proofs.Common.{arith}
use Rattle.words.specs.Words.{words}
use Rattle.row_checks.proofs.ChunkLaws.{descent_four}
use Rattle.row_checks.proofs.chunks.four_under.Goals as goal

pub returns : goal.returns
returns c =
    let one = c.in_ok-one.ensures {u = tt} in
    let two = c.in_ok-two.ensures {u = tt} in
    let three = c.in_ok-three.ensures {u = tt} in
    let four = c.in_ok-four.ensures {u = tt} in (
      omega (arith, one.0, two.0, three.0, four.0),
      λ i. descent_four c.args.chunks c.args.n (words c.args.log.now) c.args.floor i _ _ _ _ _ _ _ _ _ _ _ _ _ _ _ one.0 two.0 three.0 four.0
          c.if-four-floor.false one.1 two.1 three.1 four.1,
    )
