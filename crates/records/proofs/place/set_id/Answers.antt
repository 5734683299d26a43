use mathlib.Core.Path.{◌∙◌}
use native.Mathlib.Omega.{arith}
use Rattle.words.specs.Words.{words}
use Rattle.words.proofs.Laws.{length_words}
use Rattle.records.proofs.Change.{id_changed}
use Rattle.records.proofs.place.set_id.Goals as goal

pub returns : goal.returns
returns c =
    let s = c.args.part.now in
    c.write.ensures
    ∙ id_changed c.args.settings (words s) (length_words s ∙ omega (arith, c.requires.0)) c.requires.1 c.requires.2 c.args.id
