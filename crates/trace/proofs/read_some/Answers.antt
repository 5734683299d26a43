use mathlib.Core.Path.{◌≡◌, ◌∙◌}
use mathlib.Core.List.{List}
use Prim.Native.Nat.{ℕ, ◌≤◌}
use native.Mathlib.Omega.{arith}
use lib.ListN.{length, take, length-take}
use Rattle.trace.specs.Goes.{piece}
use Rattle.trace.proofs.Goes.{read_more, read_some_more, on_any}
use Rattle.trace.proofs.read_some.Goals as goal

-- a read is no longer than its area
within : (n : ℕ) (l : List ℕ) → length l ≡ piece → length (take n l) ≤ piece
within n l e = rw length-take (omega arith)

pub returns-in_err-now-clause-err : goal.returns-in_err-now-clause-err
returns-in_err-now-clause-err g c = on_any _ (read_some_more c.requires.1 c.in_err-now.ensures.err)

pub returns-clause-ok : goal.returns-clause-ok
returns-clause-ok g c =
    let t = c.in_ok-now.ensures.ok in
    let short = within c.in_ok-n.n c.read.new.buf (c.read.auto.buf ∙ c.requires.3) in
    (t.ready, read_more _ c.requires.1 t, omega (arith, t.number, short))
