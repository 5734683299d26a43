use mathlib.Core.Path.{sym, ◌∙◌}
use native.Mathlib.Omega.{arith}
use Rattle.words.specs.Words.{words}
use Rattle.words.proofs.Laws.{length_words}
use Rattle.entries.proofs.Words.{key_word}
use Rattle.entries.proofs.key_at.Goals as goal

pub returns : goal.returns
returns c =
    c.read.ensures ∙ sym (key_word c.args.most (words c.args.t.now) (length_words c.args.t.now ∙ omega arith) c.requires.table.few c.args.i
    c.requires.i_bound)
