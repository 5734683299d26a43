use Rattle.std.proofs.Common.{arith, ◌≡◌, ◌-◌}
use Rattle.words.specs.Words.{words}
use Rattle.row_checks.specs.Stretches.{block_at}
use Rattle.row_checks.proofs.StretchLaws.{if_there, stretch_four}
use Rattle.row_checks.proofs.rows.four_under.Goals as goal

pub returns : goal.returns
returns c =
    let one = c.in_ok-one.ensures {u = tt} in
    let two = c.in_ok-two.ensures {u = tt} in
    let three = c.in_ok-three.ensures {u = tt} in
    if_there c.row_under-4.result c.row_under-4.ensures (λ r four.
    let e : r.at ≡ c.args.next.at - 4 = omega (arith, one.0, two.0, three.0, four.0) in
    let here : r.block ≡ block_at (words c.args.table.now) (c.args.next.at - 4) = rw e at four.1.here in (
      omega arith,
      λ i. stretch_four c.args.bounds.now (words c.args.table.now) c.args.floor i _ _ _ _ _ _ _ _ _ _ one.0 two.0 three.0 four.0
          (omega (arith, here, c.read.ensures)) one.1 two.1 three.1 four.1,
    ))
