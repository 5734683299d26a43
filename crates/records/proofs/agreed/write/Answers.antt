use mathlib.Core.Path.{◌∙◌}
use native.Mathlib.Omega.{arith}
use Rattle.words.specs.Words.{words}
use Rattle.words.proofs.Laws.{length_words}
use Rattle.records.specs.Records.{agreed_of}
use Rattle.records.proofs.Steps.{agreed_written}
use Rattle.records.proofs.agreed.write.Goals as goal

pub returns : goal.returns
returns c =
    let s = c.args.part.now in
    c.put_words.ensures ∙ agreed_written (agreed_of c.args.agreed) (words s) (length_words s ∙ omega (arith, c.requires))
