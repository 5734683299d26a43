use mathlib.Core.Path.{◌∙◌}
use native.Mathlib.Omega.{arith}
use Rattle.words.specs.Words.{words}
use Rattle.words.proofs.Laws.{length_words}
use Rattle.records.proofs.Change.{known_changed}
use Rattle.records.proofs.proxy.set_known.Goals as goal

pub returns : goal.returns
returns c =
    let s = c.args.part.now in
    c.write.ensures ∙ known_changed c.args.view.0 (words s) (length_words s ∙ omega (arith, c.requires))
