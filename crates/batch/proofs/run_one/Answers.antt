use Rattle.batch.specs.Batch.{batch_with, lent}
use Rattle.batch.proofs.Turns.{turned}
use Rattle.batch.proofs.run_one.Goals as goal

pub returns : goal.returns
returns c =
    let s = c.args in
    turned s.settings.size (batch_with s.events.now s.«data».now) s.i (lent s.store.now s.area.now s.answers.now)
    c.step_at-answer.result _ _
    c.step_at-answer.ensures _ c.set_answer.ensures
