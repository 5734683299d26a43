use borrow.Author.Tests.{eq-eqb, ne_eqb}
use Rattle.rules.specs.Writes.{raised}
use Rattle.writes.proofs.put.raised.Goals as goal

pub returns-then-next-ceiling : goal.returns-then-next-ceiling
unfolding raised
returns-then-next-ceiling c = rw (eq-eqb c.args.next c.args.ceiling c.if-next-ceiling.true)

pub returns : goal.returns
unfolding raised
returns c = rw (ne_eqb c.args.next c.args.ceiling c.if-next-ceiling.false)
