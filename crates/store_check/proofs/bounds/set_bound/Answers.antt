use Rattle.std.proofs.Common.{arith, sym}
use Rattle.store_check.proofs.BoundLaws.{with_none, with_set, given_zero, given_far, given_yes}
use Rattle.store_check.proofs.bounds.set_bound.Goals.{else-id-gt0-via-then-id-gt0+else-id-given, else-id-gt0-via-else-id-gt0}
use Rattle.store_check.proofs.bounds.set_bound.Goals as goal

pub returns-then-id-given : goal.returns-then-id-given
returns-then-id-given c = sym (with_set _ _ _ _ (given_yes _ _ c.if-id-gt0.true c.if-id-given.true))

pub returns-else-id-gt0 : goal.returns-else-id-gt0
returns-else-id-gt0 c =
    elim c.else-id-gt0.branch [
      | else-id-gt0-via-then-id-gt0+else-id-given w ↦ sym (with_none _ _ _ _ (given_far _ _ w.if-id-given.false))
      | else-id-gt0-via-else-id-gt0 w ↦ sym (with_none _ _ _ _ (given_zero _ _ (omega arith)))
    ]
