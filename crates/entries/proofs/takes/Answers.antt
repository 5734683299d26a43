use Rattle.std.proofs.Common.{arith, sym, ◌∙◌}
use Rattle.words.specs.Words.{words}
use Rattle.words.proofs.Laws.{length_words}
use Rattle.entries.proofs.Words.{entries, entries_length, takes_room, takes_has}
use Rattle.entries.proofs.takes.Goals as goal

pub returns-then-has : goal.returns-then-has
returns-then-has c =
    c.if-has.true ∙ sym (takes_has c.args.most (entries (words c.args.t.now)) c.args.b.0 (sym c.has.ensures ∙ c.if-has.true))

pub returns-else-has : goal.returns-else-has
returns-else-has c =
    sym (takes_room c.args.most (entries (words c.args.t.now)) c.args.b.0 (sym c.has.ensures ∙ c.if-has.false) ∙ rw
    (entries_length c.args.most (words c.args.t.now) (length_words c.args.t.now ∙ omega arith) c.requires.few, c.read.ensures))
