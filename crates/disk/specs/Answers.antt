-- The outcome of a step, as the call for C gives it.
use Rattle.std.specs.Prelude.{List, ℕ}
use Rattle.calls.specs.Outcome.{Outcome}
use Rattle.disk.specs.declared.StepAnswer.{StepAnswer}

-- a step's number and key, beside each byte of the answer area and of the store
abbrev pub step_outcome : StepAnswer → List ℕ → List ℕ → Outcome
step_outcome r area store = record { code = r.code; key = r.key; area = area; store = store }
