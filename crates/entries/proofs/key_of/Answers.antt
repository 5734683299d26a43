use mathlib.Core.Path.{sym, ◌∙◌}
use native.Mathlib.Omega.{arith}
use lib.ListN.{length}
use Rattle.words.specs.Words.{words}
use Rattle.words.proofs.Laws.{length_words}
use Rattle.tables.specs.Tables.{HereAt, GapAt}
use Rattle.entries.proofs.Words.{key_for_found, key_for_gap}
use Rattle.entries.proofs.key_of.Goals as goal

pub returns-in-Ok : goal.returns-in-Ok
returns-in-Ok c =
    let p = c.in-Ok.p in
    let h : HereAt 2 (words c.args.t.now) c.args.b.0 p = rw c.in-Ok.is at c.requires.1 in
    c.key_at.ensures
    ∙ sym (key_for_found c.args.most (words c.args.t.now) (length c.args.t.now) (length_words c.args.t.now ∙ omega arith) c.requires.0
    c.args.b.0 p h)

pub returns-in-Err : goal.returns-in-Err
returns-in-Err c =
    let p = c.in-Err.field-0 in
    let h : GapAt 2 (words c.args.t.now) c.args.b.0 p = rw c.in-Err.is at c.requires.1 in
    sym (key_for_gap c.args.most (words c.args.t.now) (length c.args.t.now) (length_words c.args.t.now ∙ omega arith) c.requires.0
    c.args.b.0 p h)
