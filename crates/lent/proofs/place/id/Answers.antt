use mathlib.Core.Path.{sym, ◌∙◌}
use Rattle.lent.proofs.Places.{id_is}
use Rattle.lent.proofs.place.id.Goals as goal

pub returns : goal.returns
returns c =
    c.id.ensures ∙ sym (id_is _ c.args.store.now _ c.requires.0 c.args.place c.requires.1 c.part.ensures)
