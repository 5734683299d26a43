use Rattle.std.proofs.lemmas.Result.{err_from_is_err_and}
use mathlib.Core.Path.{sym, ◌∙◌}
use native.Mathlib.Omega.{arith}
use Rattle.words.specs.Words.{words}
use Rattle.layout.specs.Store.{decode}
use Rattle.relays.specs.Relays.{relay_of, FoundAt, Takeable}
use Rattle.relays.proofs.Delivering.{deliver_none, deliver_aside, deliver_no, deliver_yes}
use Rattle.relays.proofs.deliver.deliver.Goals as goal
use Rattle.relays.proofs.deliver.deliver.Goals.{After-read-found, In_ok-asks}

found : (c : After-read-found) → let s = decode (words c.args.store.now) in FoundAt s c.args.index (relay_of s c.read-found.result)
found c = record { inside = omega (arith, c.relay_count.ensures, c.if-relay_count-index.false); same = c.read-found.ensures }

takeable : (c : In_ok-asks) → let s = decode (words c.args.store.now) in Takeable s c.args.index (relay_of s c.read-found.result)
takeable c = record {
  found = record { inside = omega (arith, c.relay_count.ensures, c.if-relay_count-index.false); same = c.read-found.ensures };
  taken = sym c.is_taken.ensures ∙ c.if-is_taken.true;
  asked = sym c.in_ok-asks.ensures;
}

pub returns-then-relay_count-index : goal.returns-then-relay_count-index
returns-then-relay_count-index c =
    deliver_none (words c.args.store.now) c.args.index c.requires.sound (omega (arith, c.relay_count.ensures, c.if-relay_count-index.true))

pub returns-in_err-asks : goal.returns-in_err-asks
returns-in_err-asks c =
    let p = err_from_is_err_and c.from_residual.result c.from_residual.ensures.1 in
    rw (p.1, p.2) (deliver_no (words c.args.store.now) c.args.index _ (found (goal.at.returns-in_err-asks c).After-read-found) c.requires.sound
    (sym c.is_taken.ensures ∙ c.if-is_taken.true) _ c.in_err-asks.ensures)

pub take-requires : goal.take-requires
take-requires c = (c.requires, takeable (goal.at.take-requires c).In_ok-asks)

pub returns-then-is_taken : goal.returns-then-is_taken
returns-then-is_taken c =
    let done = c.take in
    deliver_yes (words c.args.store.now) c.args.index _ (takeable (goal.at.returns-then-is_taken c).In_ok-asks) (words done.new.store) done.ensures

pub returns : goal.returns
returns c =
    let done = c.remove in
    deliver_aside (words c.args.store.now) c.args.index _ (found (goal.at.returns c).After-read-found) (sym c.is_taken.ensures ∙ c.if-is_taken.false)
    (words done.new.store) done.ensures
