use mathlib.Core.Path.{◌∙◌}
use lib.ListN.{length}
use Rattle.words.specs.Words.{words}
use Rattle.words.proofs.Laws.{room}
use Rattle.collect.proofs.Marking.{named_none, named_table}
use Rattle.collect.proofs.marks.mark_named.Goals as goal

pub mark_table-requires-clause-table_in : goal.mark_table-requires-clause-table_in
mark_table-requires-clause-table_in c = c.requires.table_in _ c.in-Some.is

pub returns-in-Some : goal.returns-in-Some
returns-in-Some c =
    let a = c.args in
    c.mark_table.ensures
    ∙ rw c.in-Some.is (named_table a.settings a.at (words a.store.now) (length a.store.now) (room _ _ c.requires.log_in.inside) c.requires.log_in c.in-Some.from)

pub returns-in_default : goal.returns-in_default
returns-in_default c =
    let a = c.args in
    rw c.in_default.is (named_none a.settings a.at (words a.store.now) (length a.store.now) (room _ _ c.requires.log_in.inside) c.requires.log_in)
