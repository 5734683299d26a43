use mathlib.Core.Path.{refl}
use Prim.Native.Nat.{◌+◌, ◌*◌}
use native.Mathlib.Omega.{arith}
use Rattle.collect.proofs.Marking.{lent_log, lent_sweeps}
use Rattle.collect.proofs.marks.sweep_log.Goals as goal

pub keep_marked-requires : goal.keep_marked-requires
keep_marked-requires c =
    let a = 8 * c.args.at in
    lent_log c.args.settings c.args.at c.args.store.now c.requires a (a + 8 * c.log_words.result) refl (omega arith)

pub returns : goal.returns
returns c =
    let a = 8 * c.args.at in
    lent_sweeps c.args.settings c.args.at c.args.store.now c.requires a (a + 8 * c.log_words.result) refl (omega arith)
    c.keep_marked.new.log (omega arith) c.keep_marked.ensures
