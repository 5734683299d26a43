use mathlib.Core.List.{[]}
use native.Mathlib.Omega.{arith}
use Rattle.rules.specs.Event.{event_from}
use Rattle.rules.proofs.Event.{kinds_open}
use Rattle.step.proofs.KindLaws.{at_kind}
use Rattle.step.proofs.keep_up.Goals as goal

pub returns-in-21 : goal.returns-in-21
unfolding kinds_open
returns-in-21 c =
    at_kind {k = 21} (λ k. event_from k c.args.place 0 0 []) c.in-21.is c.mend.ensures

pub returns-in_default : goal.returns-in_default
unfolding kinds_open
returns-in_default c =
    at_kind {k = 22} {kind = c.args.kind} (λ k. event_from k c.args.place 0 0 []) (omega arith) c.collect.ensures
