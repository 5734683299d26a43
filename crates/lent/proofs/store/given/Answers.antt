use mathlib.Core.Path.{sym, ◌∙◌}
use Rattle.words.specs.Words.{words}
use Rattle.layout.proofs.Parts.{given_read}
use Rattle.lent.proofs.store.given.Goals as goal

pub returns : goal.returns
returns c =
    c.read.ensures ∙ sym (given_read (words c.args.store.now) c.requires.sound.size)
