use mathlib.Core.Path.{◌∙◌}
use native.Mathlib.Omega.{arith}
use Rattle.words.specs.Words.{words}
use Rattle.words.proofs.Laws.{length_words}
use Rattle.format.proofs.First.{copies_written}
use Rattle.format.proofs.copies.Goals as goal

pub returns : goal.returns
returns c =
    cc (copies_written c.args.settings (words c.args.s.now) (length_words c.args.s.now ∙ omega (arith, c.requires)))
