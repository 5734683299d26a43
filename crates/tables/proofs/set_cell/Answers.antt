use mathlib.Core.Path.{◌∙◌}
use native.Mathlib.Omega.{arith}
use Rattle.words.specs.Words.{words}
use Rattle.words.proofs.Laws.{length_words}
use Rattle.tables.proofs.Changes.{word_set}
use Rattle.tables.proofs.set_cell.Goals as goal

pub returns : goal.returns
returns c =
    let w = words c.args.t.now in
    c.write.ensures ∙ word_set c.args.width c.args.most w (length_words c.args.t.now ∙ omega arith) c.requires.table.few
    c.args.i c.args.j c.args.v _ c.requires.i_bound.0 c.requires.i_bound.1 (rw c.offset.ensures.0)
