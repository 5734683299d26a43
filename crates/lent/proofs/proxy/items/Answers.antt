use Prim.Native.Nat.{◌+◌, ◌*◌}
use native.Mathlib.Omega.{arith}
use Rattle.lent.proofs.Proxies.{items_part}
use Rattle.lent.proofs.proxy.items.Goals as goal

pub returns : goal.returns
returns c =
    let at = 8 * c.items_at-at.result in
    items_part c.args.settings c.args.store.now c.requires.0 c.args.proxy c.requires.1 at (at + 520) (omega arith) (omega arith) (omega arith)
