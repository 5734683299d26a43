use mathlib.Core.Path.{sym, ◌∙◌}
use Rattle.words.specs.Words.{words}
use Rattle.layout.proofs.Parts.{view_read}
use Rattle.lent.proofs.store.view.Goals as goal

pub returns : goal.returns
returns c =
    c.read.ensures ∙ sym (view_read (words c.args.store.now) c.requires.sound.size)
