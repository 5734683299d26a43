use Rattle.std.proofs.lemmas.Result.{err_from_is_err_and}
use mathlib.Core.Path.{sym}
use Rattle.words.specs.Words.{words}
use Rattle.rules.specs.Event.{Event}
use Rattle.rules.specs.Step.{rule}
use Rattle.layout.specs.Store.{decode}
use Rattle.lent.proofs.Performs.{refused, accepted}
use Rattle.sends.proofs.Sending.{sendable}
use Rattle.sends.proofs.send.Goals as goal

pub returns-in_err-asks : goal.returns-in_err-asks
unfolding rule
returns-in_err-asks c =
    let p = err_from_is_err_and c.from_residual.result c.from_residual.ensures.1 in
    rw (p.1, p.2) (refused (Event.send c.args.block) (words c.args.store.now) c.requires.sound _ c.in_err-asks.ensures)

pub relay-requires : goal.relay-requires
relay-requires c =
    let k = sendable (decode (words c.args.store.now)) c.args.block (sym c.in_ok-asks.ensures) in
    (c.requires, k.room, k.order)

pub returns : goal.returns
unfolding rule
returns c =
    let done = c.relay in
    accepted (Event.send c.args.block) (words c.args.store.now) (words done.new.store) (sym c.in_ok-asks.ensures) done.ensures
