use mathlib.Core.Path.{sym, ap, ◌∙◌}
use Rattle.layout.specs.Contents.{Place}
use Rattle.lent.proofs.Places.{place_is, id_is}
use Rattle.lent.proofs.place.status.Goals as goal

pub read_status-requires : goal.read_status-requires
read_status-requires c =
    (c.part.ensures.size, rw (id_is _ c.args.store.now _ c.requires.0 c.args.place c.requires.1 c.part.ensures) at c.requires.2)

pub returns : goal.returns
returns c =
    c.read_status.ensures
    ∙ ap (λ (x : Place). x.snd.status) (sym (place_is _ c.args.store.now _ c.requires.0 c.args.place c.requires.1 c.part.ensures))
