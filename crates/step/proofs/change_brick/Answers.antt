use mathlib.Core.List.{[]}
use native.Mathlib.Omega.{arith}
use Rattle.rules.specs.Event.{event_from}
use Rattle.rules.proofs.Event.{kinds_open}
use Rattle.step.proofs.KindLaws.{at_kind}
use Rattle.step.proofs.change_brick.Goals as goal

pub returns-in-14 : goal.returns-in-14
unfolding kinds_open
returns-in-14 c =
    at_kind {k = 14} (λ k. event_from k c.args.place 0 0 []) c.in-14.is c.crash.ensures

pub returns-in-15 : goal.returns-in-15
unfolding kinds_open
returns-in-15 c =
    at_kind {k = 15} (λ k. event_from k c.args.place 0 0 []) c.in-15.is c.lose.ensures

pub returns-in-16 : goal.returns-in-16
unfolding kinds_open
returns-in-16 c =
    at_kind {k = 16} (λ k. event_from k c.args.place 0 0 []) c.in-16.is c.rise.ensures

pub returns-in_default : goal.returns-in_default
unfolding kinds_open
returns-in_default c =
    at_kind {k = 17} {kind = c.args.kind} (λ k. event_from k c.args.place 0 0 []) (omega arith) c.join.ensures
