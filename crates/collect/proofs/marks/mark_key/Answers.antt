use mathlib.Core.Path.{refl}
use Prim.Native.Nat.{◌+◌, ◌*◌}
use native.Mathlib.Omega.{arith}
use lib.Dec.{eqb}
use Rattle.collect.proofs.Marking.{lent_log, lent_marks}
use Rattle.collect.proofs.marks.mark_key.Goals as goal

pub mark_key-requires : goal.mark_key-requires
mark_key-requires c =
    let a = 8 * c.args.at in
    lent_log c.args.settings c.args.at c.args.store.now c.requires a (a + 8 * c.log_words.result) refl (omega arith)

pub returns : goal.returns
returns c =
    let a = 8 * c.args.at in
    lent_marks c.args.settings c.args.at c.args.store.now c.requires a (a + 8 * c.log_words.result) refl (omega arith)
    c.mark_key.new.log (eqb c.args.key) (omega arith) c.mark_key.ensures
