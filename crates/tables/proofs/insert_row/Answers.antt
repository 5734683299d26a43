use mathlib.Core.Path.{◌∙◌}
use native.Mathlib.Omega.{arith}
use Rattle.words.specs.Words.{words}
use Rattle.words.proofs.Laws.{length_words}
use Rattle.tables.proofs.Changes.{inserted}
use Rattle.tables.proofs.insert_row.Goals as goal

pub returns : goal.returns
returns c =
    let n = c.read-n in
    let a = c.offset-at in
    let e = c.offset-end in
    inserted c.args.width c.args.most (words c.args.t.now) (length_words c.args.t.now ∙ omega arith) c.requires.table.few c.args.p
    a.result e.result n.result c.args.list.now (words c.move_up.new.s) (words c.put_words.new.s)
    (words c.write.new.s) c.requires.p_bound.0 c.requires.p_bound.1 c.requires.p_bound.2 n.ensures a.ensures.0 e.ensures.0
    c.move_up.ensures c.put_words.ensures c.write.ensures
