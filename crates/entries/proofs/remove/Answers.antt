use mathlib.Core.Path.{◌∙◌}
use native.Mathlib.Omega.{arith}
use lib.ListN.{length}
use Rattle.words.specs.Words.{words}
use Rattle.words.proofs.Laws.{length_words}
use Rattle.tables.specs.Tables.{HereAt, GapAt}
use Rattle.entries.proofs.Words.{remove_leaves, remove_gap}
use Rattle.entries.proofs.remove.Goals as goal

pub returns-in-Ok : goal.returns-in-Ok
returns-in-Ok c =
    let h : HereAt 2 (words c.args.t.now) c.args.b.0 c.in-Ok.p = rw c.in-Ok.is at c.find.ensures in
    c.remove_row.ensures ∙ remove_leaves c.args.most (words c.args.t.now) (length c.args.t.now)
    (length_words c.args.t.now ∙ omega arith) c.requires c.args.b.0 c.in-Ok.p h

pub returns-in_default : goal.returns-in_default
returns-in_default c =
    let g : GapAt 2 (words c.args.t.now) c.args.b.0 c.in_default.field-0 = rw c.in_default.is at
    c.find.ensures in
    remove_gap c.args.most (words c.args.t.now) (length c.args.t.now) (length_words c.args.t.now ∙ omega arith) c.requires c.args.b.0
    c.in_default.field-0 g
