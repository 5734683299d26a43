use Prim.Native.Nat.{◌+◌}
use Rattle.words.specs.Words.{words}
use Rattle.words.proofs.Laws.{room}
use Rattle.lists.specs.Rows.{table_words}
use Rattle.tables.proofs.Changes.{copied_run}
use Rattle.tables.proofs.copy_table.Goals as goal

pub returns : goal.returns
returns c =
    let v = c.args.s.now in
    let size = table_words c.args.width c.args.most in
    copied_run c.args.width c.args.most c.args.from c.args.to c.read-n.result (words v)
    (words c.move_words.new.s) (room v (c.args.from + size) c.requires.first_in) (room v (c.args.to + size) c.requires.second_in)
    c.requires.few
    c.read-n.ensures c.move_words.ensures
