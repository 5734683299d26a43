use mathlib.Core.List.{[]}
use native.Mathlib.Omega.{arith}
use Rattle.rules.specs.Event.{event_from}
use Rattle.rules.proofs.Event.{kinds_open}
use Rattle.step.proofs.KindLaws.{at_kind}
use Rattle.step.proofs.change_view.Goals as goal

pub returns-in-18 : goal.returns-in-18
unfolding kinds_open
returns-in-18 c =
    at_kind {k = 18} (λ k. event_from k c.args.bucket 0 0 []) c.in-18.is c.view.ensures

pub returns-in-19 : goal.returns-in-19
unfolding kinds_open
returns-in-19 c =
    at_kind {k = 19} (λ k. event_from k c.args.bucket 0 0 []) c.in-19.is c.fetch.ensures

pub returns-in_default : goal.returns-in_default
unfolding kinds_open
returns-in_default c =
    at_kind {k = 20} {kind = c.args.kind} (λ k. event_from k c.args.bucket 0 0 []) (omega arith) c.ready.ensures
