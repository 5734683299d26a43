use mathlib.Core.Path.{sym}
use Rattle.store.specs.Calls.{check_answer}
use Rattle.store.proofs.check.Goals as goal

pub returns-then-is_sound : goal.returns-then-is_sound
unfolding check_answer
returns-then-is_sound c = rw (sym c.if-is_sound.ensures)

pub returns-else-is_sound : goal.returns-else-is_sound
unfolding check_answer
returns-else-is_sound c = rw (sym c.if-is_sound.ensures)
