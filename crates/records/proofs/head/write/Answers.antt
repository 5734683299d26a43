use mathlib.Core.Path.{◌∙◌}
use native.Mathlib.Omega.{arith}
use Rattle.words.specs.Words.{words}
use Rattle.words.proofs.Laws.{length_words}
use Rattle.records.specs.Records.{head_of}
use Rattle.records.proofs.Steps.{head_written}
use Rattle.records.proofs.head.write.Goals as goal

pub returns : goal.returns
returns c =
    let s = c.args.part.now in
    c.put_words.ensures ∙ head_written (head_of c.args.head) (words s) (length_words s ∙ omega (arith, c.requires))
