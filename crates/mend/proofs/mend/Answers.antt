use mathlib.Core.Path.{sym}
use native.Mathlib.Omega.{arith}
use Rattle.std.proofs.lemmas.Result.{err_from_is_err_and}
use borrow.Author.Rules.{rules}
use Rattle.words.specs.Words.{words}
use Rattle.rules.specs.Event.{Event}
use Rattle.rules.specs.Step.{rule}
use Rattle.rules.proofs.Limits.{few_buckets}
use Rattle.rules.proofs.Refusals.{refuses_there}
use Rattle.layout.specs.Store.{decode}
use Rattle.lent.specs.Asks.{place_asks}
use Rattle.lent.proofs.Performs.{refused}
use Rattle.lent.proofs.Places.{place_yes}
use Rattle.mend.proofs.Answers.{full, done}
use Rattle.mend.proofs.mend.Goals as goal

pub returns-in_err-asks : goal.returns-in_err-asks
unfolding rule
returns-in_err-asks c =
    let p = err_from_is_err_and c.from_residual.result c.from_residual.ensures.1 in
    rw (p.1, p.2) (refused (Event.mend c.args.place) (words c.args.store.now) c.requires.sound _
    (refuses_there (place_asks (decode (words c.args.store.now)) c.args.place) _ _ c.in_err-asks.ensures))

pub slice_bounds-tables-end : goal.slice_bounds-tables-end
slice_bounds-tables-end c = omega (arith, few_buckets c.args.settings, c.buckets-count.ensures)

pub mend_in-requires : goal.mend_in-requires
mend_in-requires c =
    let y = place_yes c.args.settings c.args.store.now c.requires c.args.place (sym c.in_ok-asks.ensures) in
    (record { store = c.requires; inside = y.inside; up = y.up }, search rules, search rules)

pub returns-in_err-mend_in : goal.returns-in_err-mend_in
returns-in_err-mend_in c =
    let p = err_from_is_err_and c.from_residual-in_err-mend_in.result c.from_residual-in_err-mend_in.ensures.1 in
    rw (p.1, p.2) (full _ _ c.requires _ (sym c.in_ok-asks.ensures) _ c.in_err-mend_in.ensures.1 _ c.in_err-mend_in.ensures.0)

pub returns : goal.returns
returns c = done _ _ c.requires _ (sym c.in_ok-asks.ensures) _ c.in_ok-mend_in.ensures.1 c.in_ok-mend_in.ensures.0
