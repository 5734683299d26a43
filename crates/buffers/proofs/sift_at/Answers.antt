use mathlib.Core.Path.{sym, ◌∙◌}
use Rattle.buffers.specs.Steps.{sifted}
use Rattle.buffers.proofs.sift_at.Goals as goal

pub returns-then-of_bucket : goal.returns-then-of_bucket
unfolding sifted
returns-then-of_bucket c =
    let q = sym (rw c.read.ensures at c.of_bucket.ensures) ∙ c.if-of_bucket.true in
    record { words = rw q; next = rw q }

pub returns : goal.returns
unfolding sifted
returns c =
    let q = sym (rw c.read.ensures at c.of_bucket.ensures) ∙ c.if-of_bucket.false in
    record { words = rw q c.move_down.ensures; next = rw q }
