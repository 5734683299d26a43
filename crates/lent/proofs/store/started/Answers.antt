use mathlib.Core.Path.{sym, ◌∙◌}
use Rattle.words.specs.Words.{words}
use Rattle.layout.proofs.Parts.{started_read}
use Rattle.lent.proofs.store.started.Goals as goal

pub returns : goal.returns
returns c =
    c.read.ensures ∙ sym (started_read (words c.args.store.now) c.requires.sound.size)
