use Rattle.std.proofs.Common.{arith, sym, ◌∙◌}
use borrow.Author.Tests.{lt-leb}
use Rattle.words.specs.Words.{words}
use Rattle.words.proofs.Laws.{length_words}
use Rattle.row_checks.specs.Rows.{key_below}
use Rattle.row_checks.proofs.RowLaws.{zero_not_below}
use Rattle.row_checks.proofs.ChunkLaws.{log_over, log_pass}
use Rattle.row_checks.proofs.chunks.log_good.Goals as goal

pub returns-then-count-chunks : goal.returns-then-count-chunks
returns-then-count-chunks c =
    let k = c.requires.small in
    c.pass.ensures ∙ sym (log_pass _ (key_below c.args.bounds.now) (words c.args.log.now) k
    (length_words c.args.log.now ∙ omega (arith, c.requires.size)) (zero_not_below c.args.bounds.now c.requires.none) _
    c.read-count.ensures c.if-count-chunks.true)

pub returns-else-count-chunks : goal.returns-else-count-chunks
returns-else-count-chunks c =
    lt-leb _ _ c.if-count-chunks.false ∙ sym (log_over _ _ (words c.args.log.now) _ c.read-count.ensures c.if-count-chunks.false)
