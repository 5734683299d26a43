use mathlib.Core.Path.{sym, ◌∙◌}
use native.Mathlib.Omega.{arith}
use Rattle.words.specs.Words.{words}
use Rattle.words.proofs.Laws.{length_words}
use Rattle.entries.proofs.Words.{entries_clean}
use Rattle.entries.proofs.insert_or_drop.Goals as goal

pub returns-else-takes : goal.returns-else-takes
returns-else-takes c =
    rw (sym c.takes.ensures ∙ c.if-takes.false)
    (sym (entries_clean c.args.most (words c.args.t.now) (length_words c.args.t.now ∙ omega arith)))
