use borrow.Author.Rules.{rules}
use Rattle.words.specs.Words.{words}
use Rattle.chunk_log.specs.Log.{key_by}
use Rattle.chunk_log.proofs.lower_bound.Goals as goal

pub returns : goal.returns
returns c =
    c.lower_bound.ensures.first (key_by c.args.chunks (words c.args.log.now)) (λ i r h p. search rules) c.requires.ordered.rising
