use mathlib.Core.Path.{sym, ◌∙◌}
use native.Mathlib.Omega.{arith}
use Rattle.words.specs.Words.{words}
use Rattle.words.proofs.Laws.{length_words}
use Rattle.entries.proofs.Words.{block_at}
use Rattle.entries.proofs.block_at.Goals as goal

pub returns : goal.returns
returns c =
    c.read.ensures ∙ sym (block_at c.args.most (words c.args.t.now) (length_words c.args.t.now ∙ omega arith) c.requires.table.few c.args.i
    c.requires.i_bound)
