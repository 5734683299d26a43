use Prim.Native.Nat.{◌*◌}
use native.Mathlib.Omega.{arith}
use Rattle.layout.proofs.Bounds.{place_small}
use Rattle.maps.proofs.Saving.{copies_lent, copies_saved}
use Rattle.maps.proofs.savemap.save_place.Goals as goal

pub overflow_mul-end : goal.overflow_mul-end
overflow_mul-end c = omega (arith, place_small c.args.settings c.requires.limits)

pub save_all-requires : goal.save_all-requires
save_all-requires c =
    copies_lent c.args.settings c.args.part.now c.requires 568 (8 * c.log_at-end.result) (omega arith) (omega arith)

pub returns : goal.returns
returns c =
    let matched = c.save_all in
    copies_saved c.args.settings c.args.part.now c.requires 568 (8 * c.log_at-end.result) (omega arith) (omega arith)
    matched.new.copies matched.auto.copies matched.ensures
