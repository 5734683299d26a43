use mathlib.Core.Path.{refl, ◌∙◌}
use native.Mathlib.Omega.{arith}
use lib.ListN.{length}
use Rattle.words.specs.Words.{words}
use Rattle.words.proofs.Laws.{length_words}
use Rattle.tables.specs.Tables.{HereAt, GapAt}
use Rattle.entries.proofs.Words.{gap_room, put_here, put_gap}
use Rattle.entries.proofs.insert.Goals as goal

pub insert_row-requires-clause-p_bound : goal.insert_row-requires-clause-p_bound
insert_row-requires-clause-p_bound c =
    let g : GapAt 2 (words c.args.t.now) c.args.b.0 c.in-Err.p = rw c.in-Err.is at c.find.ensures in (
      g.bound.within,
      gap_room c.args.most (words c.args.t.now) (length c.args.t.now) (length_words c.args.t.now ∙ omega arith) c.requires.sorted
          c.args.b.0 c.in-Err.p g c.requires.b_value,
      refl,
    )

pub returns-in-Ok : goal.returns-in-Ok
returns-in-Ok c =
    let h : HereAt 2 (words c.args.t.now) c.args.b.0 c.in-Ok.p = rw c.in-Ok.is at c.find.ensures in
    c.set_cell.ensures ∙ put_here c.args.most (words c.args.t.now) (length c.args.t.now)
    (length_words c.args.t.now ∙ omega arith) c.requires.sorted c.args.b.0 c.in-Ok.p h c.args.k.0

pub returns-in-Err : goal.returns-in-Err
returns-in-Err c =
    let g : GapAt 2 (words c.args.t.now) c.args.b.0 c.in-Err.p = rw c.in-Err.is at c.find.ensures in
    c.insert_row.ensures ∙ put_gap c.args.most (words c.args.t.now) (length c.args.t.now)
    (length_words c.args.t.now ∙ omega arith) c.requires.sorted c.args.b.0 c.in-Err.p g c.args.k.0 c.requires.b_value
