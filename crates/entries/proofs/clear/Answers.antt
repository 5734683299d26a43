use mathlib.Core.Path.{sym, ◌∙◌}
use native.Mathlib.Omega.{arith}
use Rattle.words.specs.Words.{words}
use Rattle.words.proofs.Laws.{length_words}
use Rattle.codec.proofs.Loops.{table_cleared}
use Rattle.layout.specs.Contents.{entry_row}
use Rattle.entries.proofs.clear.Goals as goal

pub returns : goal.returns
returns c =
    c.write.ensures ∙ sym (table_cleared entry_row c.args.most (words c.args.t.now) (rw length_words (omega arith)))
