use Prim.Native.Nat.{◌+◌, ◌*◌}
use native.Mathlib.Omega.{arith}
use Rattle.lent.proofs.Proxies.{items_part, item_gone}
use Rattle.lent.proofs.proxy.remove_item.Goals as goal

pub remove-requires : goal.remove-requires
remove-requires c =
    let at = 8 * c.items_at-at.result in
    (items_part c.args.settings c.args.store.now c.requires.0 c.args.proxy c.requires.1 at (at + 520) (omega arith) (omega arith) (omega arith)).sorted

pub returns : goal.returns
returns c =
    let at = 8 * c.items_at-at.result in
    let remove = c.remove in
    item_gone c.args.settings c.args.store.now c.requires.0 c.args.proxy c.requires.1 at (at + 520) (omega arith) (omega arith)
    c.args.block.0 remove.new.t (omega arith) remove.ensures
