use Rattle.disk.proofs.disk_step.Goals as goal

-- the answer by its number and its key
pub returns : goal.returns
returns c = rw (c.from.ensures.0, c.from.ensures.1) c.step.ensures
