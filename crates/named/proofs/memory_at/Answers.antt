use native.Mathlib.Omega.{arith}
use Rattle.named.proofs.Copies.{memory_lies, memory_none}
use Rattle.named.proofs.memory_at.Goals as goal

pub returns-in_err-place : goal.returns-in_err-place
returns-in_err-place c =
    let a = c.args in
    rw c.from_residual.ensures (memory_none a.settings a.store.now c.requires.0 a.bucket c.requires.1 a.id c.in_err-place.ensures)

pub returns : goal.returns
returns c =
    let a = c.args in
    memory_lies a.settings a.store.now c.requires.0 a.bucket c.requires.1 a.id c.in_ok-place.place _ c.in_ok-place.ensures
    (omega (arith, c.place_at.ensures.0, c.memory_at.ensures.0))
