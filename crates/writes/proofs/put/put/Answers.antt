use mathlib.Core.Path.{sym}
use Rattle.std.proofs.lemmas.Result.{err_from_is_err_and}
use Rattle.words.specs.Words.{words}
use Rattle.rules.specs.Question.{AllYes}
use Rattle.rules.specs.Writes.{put_asks}
use Rattle.layout.specs.Store.{decode}
use Rattle.writes.proofs.PutAsks.{refused_fields, refused_store, all_asked, in_range, accepted_put}
use Rattle.writes.proofs.put.put.Goals as goal
use Rattle.writes.proofs.put.put.Goals.{In_ok-store_asks}

pub returns-in_err-field_asks : goal.returns-in_err-field_asks
returns-in_err-field_asks c =
    let p = err_from_is_err_and c.from_residual.result c.from_residual.ensures.1 in
    rw (p.1, p.2) (refused_fields c.requires c.args.proxy c.args.place c.args.block c.args.bytes.now _ c.in_err-field_asks.ensures)

pub store_asks-requires : goal.store_asks-requires
store_asks-requires c =
    let range = in_range c.requires c.args.proxy c.args.place c.args.block c.args.bytes.now (sym c.in_ok-field_asks.ensures) in
    (c.requires, range.0, range.1)

pub returns-in_err-store_asks : goal.returns-in_err-store_asks
returns-in_err-store_asks c =
    let p = err_from_is_err_and c.from_residual-in_err-store_asks.result c.from_residual-in_err-store_asks.ensures.1 in
    rw (p.1, p.2) (refused_store c.requires c.args.proxy c.args.place c.args.block c.args.bytes.now (sym c.in_ok-field_asks.ensures) _ c.in_err-store_asks.ensures)

answered : (c : In_ok-store_asks) → let a = c.args in AllYes (put_asks (decode (words a.store.now)) a.proxy a.place a.block a.bytes.now)
answered c =
    all_asked c.requires c.args.proxy c.args.place c.args.block c.args.bytes.now (sym c.in_ok-field_asks.ensures) (sym c.in_ok-store_asks.ensures)

pub effect-key-requires : goal.effect-key-requires
effect-key-requires c = (c.requires, answered (goal.at.effect-key-requires c).In_ok-store_asks)

pub returns : goal.returns
returns c =
    let done = c.effect-key in
    accepted_put c.requires c.args.proxy c.args.place c.args.block c.args.bytes.now (answered (goal.at.returns c).In_ok-store_asks) done.result.0 (words done.new.store) done.ensures
