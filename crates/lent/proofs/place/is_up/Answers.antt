use mathlib.Core.Path.{sym, ap, ◌∙◌}
use Rattle.layout.specs.Contents.{Status, Brick}
use Rattle.lent.proofs.Places.{zero_blank}
use Rattle.lent.proofs.place.is_up.Goals as goal

pub returns-else-id-ne0 : goal.returns-else-id-ne0
returns-else-id-ne0 c =
    rw c.if-id-ne0.false
    (ap (λ (b : Brick). b.status.up) (sym (zero_blank _ c.args.store.now c.requires.0 _ (sym c.id.ensures ∙ c.if-id-ne0.false))))

pub returns-then-id-ne0 : goal.returns-then-id-ne0
returns-then-id-ne0 c = ap (λ (b : Status). b.up) c.status.ensures
