use mathlib.Core.List.{[]}
use native.Mathlib.Omega.{arith}
use Rattle.rules.specs.Event.{event_from}
use Rattle.rules.proofs.Event.{kinds_open}
use Rattle.step.proofs.KindLaws.{at_kind}
use Rattle.step.proofs.follow.Goals as goal

pub returns-in-12 : goal.returns-in-12
unfolding kinds_open
returns-in-12 c =
    at_kind {k = 12} (λ k. event_from k c.args.proxy 0 0 []) c.in-12.is c.learn.ensures

pub returns-in_default : goal.returns-in_default
unfolding kinds_open
returns-in_default c =
    at_kind {k = 13} {kind = c.args.kind} (λ k. event_from k c.args.proxy 0 0 []) (omega arith) c.reset.ensures
