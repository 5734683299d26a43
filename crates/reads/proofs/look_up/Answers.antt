use Rattle.std.proofs.lemmas.Result.{err_from_is_err_and}
use mathlib.Core.Path.{◌≡◌}
use Rattle.words.specs.Words.{words}
use Rattle.rules.specs.Derived.{holder}
use Rattle.rules.proofs.Refusals.{refuses_there}
use Rattle.layout.specs.Store.{decode}
use Rattle.mappings.specs.Asks.{served_asks}
use Rattle.holders.specs.Members.{LiesAt}
use Rattle.reads.proofs.Contents.{no_mapping, located, lost}
use Rattle.reads.proofs.look_up.Goals as goal

pub returns-in_err-served_asks : goal.returns-in_err-served_asks
returns-in_err-served_asks c =
    let p = err_from_is_err_and c.from_residual.result c.from_residual.ensures.1 in
    rw (p.1, p.2) (refuses_there (served_asks (decode (words c.args.store.now)) c.args.proxy c.args.block) _ _ c.in_err-served_asks.ensures)

pub returns-then-key-eq0 : goal.returns-then-key-eq0
returns-then-key-eq0 c =
    no_mapping c.args.settings (decode (words c.args.store.now)) c.args.proxy c.args.block c.in_ok-served_asks.ensures c.mapped-key.ensures c.if-key-eq0.true

pub returns-in-Some : goal.returns-in-Some
returns-in-Some c =
    let s = decode (words c.args.store.now) in
    let k = c.mapped-key.result.0 in
    let at : LiesAt c.args.settings s (holder s k) k c.in-Some.at.place c.in-Some.at.row = rw c.in-Some.is at c.holder.ensures in
    located c.args.settings s c.args.proxy c.args.block c.in_ok-served_asks.ensures c.mapped-key.ensures c.if-key-eq0.false _ _ at

pub returns-in-None : goal.returns-in-None
returns-in-None c =
    let s = decode (words c.args.store.now) in
    let none : holder s c.mapped-key.result.0 ≡ 0 = rw c.in-None.is at c.holder.ensures in
    lost c.args.settings s c.args.proxy c.args.block c.in_ok-served_asks.ensures c.mapped-key.ensures c.if-key-eq0.false none
