use mathlib.Core.Path.{◌∙◌}
use native.Mathlib.Omega.{arith}
use Rattle.words.specs.Words.{words}
use Rattle.words.proofs.Laws.{length_words}
use Rattle.bag.proofs.Laws.{remove_leaves}
use Rattle.bag.proofs.remove.Goals as goal

pub returns : goal.returns
returns c =
    c.remove_row.ensures ∙ remove_leaves (words c.args.t.now) (length_words c.args.t.now ∙ omega arith) c.requires.table.few
    c.args.i
