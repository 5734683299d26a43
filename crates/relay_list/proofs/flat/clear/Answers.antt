use mathlib.Core.Path.{sym, ◌∙◌}
use native.Mathlib.Omega.{arith}
use Rattle.words.specs.Words.{words}
use Rattle.words.proofs.Laws.{length_words}
use Rattle.rules.specs.Limits.{max_relays}
use Rattle.layout.specs.Contents.{relay_row}
use Rattle.codec.proofs.Loops.{table_cleared}
use Rattle.relay_list.proofs.flat.clear.Goals as goal

pub returns : goal.returns
returns c =
    let part = c.args.part.now in
    let some = length_words part in
    c.write.ensures ∙ sym (table_cleared relay_row max_relays (words part) (omega arith))
