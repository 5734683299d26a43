use mathlib.Core.Path.{◌∙◌}
use native.Mathlib.Omega.{arith}
use Rattle.words.specs.Words.{words}
use Rattle.words.proofs.Laws.{length_words}
use Rattle.tables.proofs.Changes.{word_at}
use Rattle.tables.proofs.cell.Goals as goal

pub returns : goal.returns
returns c =
    let w = words c.args.t.now in
    c.read.ensures ∙ rw c.offset.ensures.0
    (word_at c.args.width c.args.most w (length_words c.args.t.now ∙ omega arith) c.requires.table.few c.args.i c.args.j c.requires.i_bound.0
    c.requires.i_bound.1)
