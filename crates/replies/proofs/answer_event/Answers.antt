use Rattle.replies.proofs.Outcomes.{of_kind, yes_written, no_written}
use Rattle.replies.proofs.answer_event.Goals as goal

pub returns-then-event-eq-GET : goal.returns-then-event-eq-GET
returns-then-event-eq-GET c =
    let a = c.args in
    of_kind c.if-event-eq-GET.true a.event.a a.event.b a.event.c a.«data».now c.answer_get.ensures

pub returns-in-Ok : goal.returns-in-Ok
returns-in-Ok c =
    let w = c.write_answer in
    let a = c.args in
    let r = c.perform-answer in
    yes_written a.settings a.store.now c.requires.0 a.event.kind a.event.a a.event.b a.event.c a.«data».now c.if-event-eq-GET.false r.result _ _ r.ensures
    r.auto.area c.in-Ok.key c.in-Ok.is a.number _ a.area.now _ w.ensures.0
    w.ensures.1

pub returns-in-Err : goal.returns-in-Err
returns-in-Err c =
    let w = c.write_answer-in-Err in
    let a = c.args in
    let r = c.perform-answer in
    no_written a.settings a.store.now c.requires.0 a.event.kind a.event.a a.event.b a.event.c a.«data».now c.if-event-eq-GET.false r.result _ _ r.ensures
    r.auto.area c.in-Err.refusal c.in-Err.is a.number _ a.area.now _
    (rw c.from.ensures at w.ensures.0) (rw c.from.ensures at w.ensures.1)
