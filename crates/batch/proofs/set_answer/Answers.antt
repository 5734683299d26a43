use mathlib.Core.Path.{sym, ap, ◌∙◌}
use Prim.Native.Nat.{ℕ, ◌+◌}
use native.Mathlib.Omega.{arith}
use lib.ListN.{set, length-set}
use Rattle.std.specs.Prelude.{Result}
use Rattle.rules.specs.declared.refusal.Refusal.{Refusal}
use Rattle.rules.specs.Refusals.{code_of}
use Rattle.lent.specs.Performs.{key_of}
use Rattle.batch.proofs.set_answer.Goals as goal

pub bounds-answers-to-in-Ok : goal.bounds-answers-to-in-Ok
bounds-answers-to-in-Ok c = simp length-set (omega arith)

pub bounds-answers-to-in-Err-2 : goal.bounds-answers-to-in-Err-2
bounds-answers-to-in-Err-2 c = simp length-set (omega arith)

pub returns-in-Ok : goal.returns-in-Ok
returns-in-Ok c =
    let s = c.args in
    sym (ap (λ (x : Result ℕ Refusal). set (set s.answers.now s.to (code_of x)) (s.to + 1) (key_of x)) c.in-Ok.is)

pub returns-in-Err : goal.returns-in-Err
returns-in-Err c =
    let s = c.args in
    ap (λ (n : ℕ). set (set s.answers.now s.to n) (s.to + 1) 0) c.from.ensures
    ∙ sym (ap (λ (x : Result ℕ Refusal). set (set s.answers.now s.to (code_of x)) (s.to + 1) (key_of x)) c.in-Err.is)
