use mathlib.Core.Path.{sym, ◌∙◌}
use borrow.Author.Tests.{ne_eqb}
use Rattle.words.specs.Words.{words}
use Rattle.layout.specs.Store.{decode}
use Rattle.records.specs.Records.{agreed_of}
use Rattle.relays.proofs.Delivering.{old_relay, new_relay}
use Rattle.relays.proofs.deliver.is_taken.Goals as goal

pub returns-then-relay-view : goal.returns-then-relay-view
returns-then-relay-view c =
    new_relay (decode (words c.args.store.now)) c.args.relay (c.if-relay-view.true ∙ c.view.ensures)
    (agreed_of c.agreed.result) c.agreed.ensures

pub returns-else-relay-view : goal.returns-else-relay-view
returns-else-relay-view c =
    ne_eqb _ _ c.if-relay-view.false
    ∙ old_relay (decode (words c.args.store.now)) c.args.relay (λ e. c.if-relay-view.false (e ∙ sym c.view.ensures))
