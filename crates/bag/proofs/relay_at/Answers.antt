use mathlib.Core.Path.{ap, ◌∙◌}
use native.Mathlib.Omega.{arith}
use Rattle.words.specs.Words.{words}
use Rattle.words.proofs.Laws.{length_words}
use Rattle.layout.specs.Contents.{relay_row}
use Rattle.bag.proofs.Laws.{row_is}
use Rattle.bag.proofs.relay_at.Goals as goal

pub returns : goal.returns
returns c =
    let row = row_is (words c.args.t.now) (length_words c.args.t.now ∙ omega arith) c.requires.table.few c.args.i c.requires.i_bound in
    rw (c.cell.ensures, c.cell-2.ensures, c.cell-3.ensures, c.cell-4.ensures, c.cell-5.ensures) (ap relay_row.read row)
