use mathlib.Core.Path.{sym}
use Rattle.words.specs.Words.{words}
use Rattle.layout.proofs.Parts.{settings_are}
use Rattle.lent.proofs.Stores.{store_of}
use Rattle.lent.proofs.store.settings.Goals as goal

pub returns : goal.returns
returns c =
    let bs = c.args.store.now in
    store_of bs c.requires _ (rw (c.read.ensures, c.read-2.ensures, c.read-3.ensures, c.read-4.ensures)
    (sym (settings_are (words bs))))
