use mathlib.Core.Path.{refl, sym, ◌∙◌}
use Rattle.rules.proofs.Questions.{first_yes, first_stop, none_asked}
use Rattle.mend.proofs.mend_in.Goals as goal

pub returns-then-not-has_room : goal.returns-then-not-has_room
returns-then-not-has_room c =
    let no = sym c.has_room.ensures ∙ c.if-not-has_room.true in (sym (first_stop 10 _ no), rw no refl)

pub returns : goal.returns
returns c =
    let yes = sym c.has_room.ensures ∙ c.if-not-has_room.false in (sym (first_yes 10 _ yes ∙ none_asked), rw yes c.mend_all.ensures)
