use mathlib.Core.Path.{◌∙◌}
use Prim.Native.Nat.{◌*◌}
use native.Mathlib.Omega.{arith}
use Rattle.spans.proofs.Laws.{lent, part, part_length, part_moved}
use Rattle.spans.proofs.move_by.Goals as goal

pub returns : goal.returns
returns c =
    let old = part (8 * c.args.from) (8 * c.args.n) c.args.s.now in
    let long = part_length (8 * c.args.from) (8 * c.args.n) c.args.s.now (omega arith) in
    part_moved c.args.s.now c.copy_from_slice-2.new.self c.args.from c.args.to c.args.n c.requires.0 c.requires.1
    (c.copy_from_slice-2.ensures.after ∙ lent c.args.room.now c.copy_from_slice.new.self old (8 * c.args.n) long c.copy_from_slice.ensures.after)
