use mathlib.Core.Path.{◌∙◌}
use Prim.Native.Nat.{◌+◌, ◌*◌}
use Rattle.words.specs.Words.{words}
use Rattle.words.proofs.Laws.{room}
use Rattle.entries.proofs.Words.{copy_leaves}
use Rattle.entries.proofs.copy.Goals as goal

pub returns : goal.returns
returns c =
    c.copy_table.ensures ∙ copy_leaves c.args.most c.args.from c.args.to (words c.args.s.now)
    (room c.args.s.now (c.args.from + (1 + c.args.most * 2)) c.requires.first_in) c.requires.few
