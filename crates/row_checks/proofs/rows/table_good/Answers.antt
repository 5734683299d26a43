use Rattle.std.proofs.Common.{sym, ◌∙◌}
use borrow.Author.Tests.{lt-leb}
use Rattle.words.specs.Words.{words}
use Rattle.row_checks.specs.Rows.{key_below}
use Rattle.row_checks.proofs.RowLaws.{table_over, table_rows}
use Rattle.row_checks.proofs.rows.table_good.Goals as goal

pub returns-then-count-most : goal.returns-then-count-most
returns-then-count-most c =
    c.rows_good.ensures ∙ sym (table_rows c.args.settings (key_below c.args.bounds.now) c.args.whose c.args.most (words c.args.bytes.now) c.read-count.result c.read-count.ensures
    c.if-count-most.true)

pub returns-else-count-most : goal.returns-else-count-most
returns-else-count-most c =
    lt-leb _ _ c.if-count-most.false
    ∙ sym (table_over c.args.settings (key_below c.args.bounds.now) c.args.whose c.args.most (words c.args.bytes.now) c.read-count.result c.read-count.ensures c.if-count-most.false)
