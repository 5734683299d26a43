use mathlib.Core.Path.{◌∙◌}
use native.Mathlib.Omega.{arith}
use Rattle.words.specs.Words.{words}
use Rattle.words.proofs.Laws.{length_words}
use Rattle.records.specs.Records.{status_of}
use Rattle.records.proofs.Steps.{status_written}
use Rattle.records.proofs.status.write.Goals as goal

pub returns : goal.returns
returns c =
    let s = c.args.part.now in
    c.put_words.ensures ∙ status_written (status_of c.args.status) (words s) (length_words s ∙ omega (arith, c.requires))
