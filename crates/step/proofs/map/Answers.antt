use mathlib.Core.List.{[]}
use native.Mathlib.Omega.{arith}
use Rattle.rules.specs.Event.{event_from}
use Rattle.rules.proofs.Event.{kinds_open}
use Rattle.step.proofs.KindLaws.{at_kind}
use Rattle.step.proofs.map.Goals as goal

pub returns-in-4 : goal.returns-in-4
unfolding kinds_open
returns-in-4 c =
    at_kind {k = 4} (λ k. event_from k c.args.a c.args.b 0 []) c.in-4.is c.map.ensures

pub returns-in-5 : goal.returns-in-5
unfolding kinds_open
returns-in-5 c =
    at_kind {k = 5} (λ k. event_from k c.args.a c.args.b 0 []) c.in-5.is c.send.ensures

pub returns-in-6 : goal.returns-in-6
unfolding kinds_open
returns-in-6 c =
    at_kind {k = 6} (λ k. event_from k c.args.a c.args.b 0 []) c.in-6.is c.deliver.ensures

pub returns-in-7 : goal.returns-in-7
unfolding kinds_open
returns-in-7 c =
    at_kind {k = 7} (λ k. event_from k c.args.a c.args.b 0 []) c.in-7.is c.drop.ensures

pub returns-in_default : goal.returns-in_default
unfolding kinds_open
returns-in_default c =
    at_kind {k = 8} {kind = c.args.kind} (λ k. event_from k c.args.a c.args.b 0 []) (omega arith) c.savemap.ensures
