use borrow.Author.Rules.{rules}
use Rattle.words.specs.Words.{words}
use Rattle.tables.specs.Tables.{first_at}
use Rattle.tables.proofs.lower_bound.Goals as goal

pub returns : goal.returns
returns c =
    rw c.read-n.ensures at (c.lower_bound.ensures.first (first_at c.args.width (words c.args.t.now)) (λ i r h p. search rules)
    (rw c.read-n.ensures c.requires.rising))
