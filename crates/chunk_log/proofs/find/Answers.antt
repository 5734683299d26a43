use mathlib.Core.Path.{sym, ◌∙◌}
use native.Mathlib.Omega.{arith}
use Rattle.chunk_log.proofs.Steps.{found, missing}
use Rattle.chunk_log.proofs.find.Goals.{else-p-n-via-then-p-n+else-key_by-k, else-p-n-via-else-p-n}
use Rattle.chunk_log.proofs.find.Goals as goal

pub returns-then-key_by-k-clause-found : goal.returns-then-key_by-k-clause-found
returns-then-key_by-k-clause-found c =
    let v = c.args.log.now in
    let pl = rw c.read-n.ensures at c.lower_bound-p.ensures in
    rw c.read.ensures (found c.args.chunks c.args.width v c.requires c.args.k.0 c.lower_bound-p.result pl (omega arith)
    (sym c.key_by.ensures ∙ c.if-key_by-k.true))

pub returns-then-key_by-k-clause-in_use : goal.returns-then-key_by-k-clause-in_use
returns-then-key_by-k-clause-in_use c = omega (arith, c.requires.order.below c.lower_bound-p.result (omega arith), c.read.ensures)

pub returns-clause-found : goal.returns-clause-found
returns-clause-found c =
    let v = c.args.log.now in
    let pl = rw c.read-n.ensures at c.lower_bound-p.ensures in
    missing c.args.chunks c.args.width v c.requires c.args.k.0 c.lower_bound-p.result pl
    (elim c.else-p-n.branch [
      | else-p-n-via-then-p-n+else-key_by-k w ↦ λ _ e. w.if-key_by-k.false (w.key_by.ensures ∙ e)
      | else-p-n-via-else-p-n w ↦ λ h _. omega arith
    ])
