use mathlib.Core.Path.{◌≡◌, sym, ap, ◌∙◌}
use mathlib.Core.Bool.{Bool, true, false}
use Rattle.std.specs.Prelude.{Result, Ok, Err}
use Rattle.rules.specs.declared.refusal.Refusal.{Refusal}
use Rattle.alike.specs.Alike.{alike_answer, alike_number}
use Rattle.alike.proofs.for_c.alike.Goals as goal

pub returns-in-Ok-true : goal.returns-in-Ok-true
unfolding alike_number
returns-in-Ok-true c = ap alike_number (ap Ok (sym c.in-Ok-true.field-0-test) ∙ c.in-Ok-true.ensures)

pub returns-in-Ok-false : goal.returns-in-Ok-false
unfolding alike_number
returns-in-Ok-false c = ap alike_number (ap Ok (sym c.in-Ok-false.field-0-test) ∙ c.in-Ok-false.ensures)

pub returns-in-Err : goal.returns-in-Err
unfolding alike_number
returns-in-Err c = c.from.ensures ∙ ap alike_number c.in-Err.ensures
