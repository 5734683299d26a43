use mathlib.Core.Path.{◌∙◌}
use Prim.Native.Nat.{◌-◌}
use native.Mathlib.Omega.{arith}
use Rattle.words.specs.Words.{words}
use Rattle.words.proofs.Laws.{length_words}
use Rattle.tables.proofs.Changes.{removed}
use Rattle.tables.proofs.remove_row.Goals as goal

pub returns : goal.returns
returns c =
    let a = c.offset-at in
    let e = c.offset-end in
    removed c.args.width c.args.most (words c.args.t.now) (length_words c.args.t.now ∙ omega arith) c.requires.table.few c.args.p
    a.result e.result (c.read.result - 1) (words c.move_down.new.s) (words c.write.new.s)
    c.requires.p_bound (omega (arith, c.read.ensures, c.requires.p_bound)) a.ensures.0 e.ensures.0 c.move_down.ensures
    c.write.ensures
