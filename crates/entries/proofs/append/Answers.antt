use mathlib.Core.Path.{◌∙◌}
use native.Mathlib.Omega.{arith}
use Rattle.words.specs.Words.{words}
use Rattle.words.proofs.Laws.{length_words}
use Rattle.entries.proofs.Words.{append_leaves}
use Rattle.entries.proofs.append.Goals as goal

pub returns : goal.returns
returns c =
    c.insert_row.ensures ∙ append_leaves c.args.most (words c.args.t.now) (length_words c.args.t.now ∙ omega arith)
    c.requires.table.few c.read-n.result c.args.b.0 c.args.k.0 c.read-n.ensures c.requires.t_bound
