use native.Mathlib.Omega.{arith}
use Rattle.rules.specs.Event.{event_from}
use Rattle.rules.proofs.Event.{kinds_open}
use Rattle.step.proofs.KindLaws.{at_kind}
use Rattle.step.proofs.write.Goals as goal

pub returns-in-1 : goal.returns-in-1
unfolding kinds_open
returns-in-1 c =
    at_kind {k = 1} (λ k. event_from k c.args.a c.args.b c.args.c c.args.«data».now)
    c.in-1.is c.put.ensures

pub returns-in-2 : goal.returns-in-2
unfolding kinds_open
returns-in-2 c =
    at_kind {k = 2} (λ k. event_from k c.args.a c.args.b c.args.c c.args.«data».now)
    c.in-2.is c.copy.ensures

pub returns-in_default : goal.returns-in_default
unfolding kinds_open
returns-in_default c =
    at_kind {k = 3} {kind = c.args.kind} (λ k. event_from k c.args.a c.args.b c.args.c c.args.«data».now)
    (omega arith) c.savelog.ensures
