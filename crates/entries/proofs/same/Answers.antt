use mathlib.Core.Path.{◌∙◌}
use native.Mathlib.Omega.{arith}
use Rattle.words.specs.Words.{words}
use Rattle.words.proofs.Laws.{length_words}
use Rattle.entries.proofs.Words.{same_is_rows}
use Rattle.entries.proofs.same.Goals as goal

pub returns : goal.returns
returns c =
    c.same.ensures ∙ same_is_rows c.args.most (words c.args.a.now) (words c.args.b.now) (length_words c.args.a.now ∙ omega arith)
    (length_words c.args.b.now ∙ omega arith) c.requires.table.few c.requires.table_2.few
