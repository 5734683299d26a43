use mathlib.Core.Path.{◌∙◌}
use Rattle.lent.proofs.Places.{member_up}
use Rattle.lent.proofs.place.up_member.Goals as goal

pub returns : goal.returns
returns c =
    c.is_member.ensures ∙ member_up _ c.args.store.now c.requires.0 _
