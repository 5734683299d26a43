use Prim.Native.Nat.{◌+◌, ◌*◌}
use native.Mathlib.Omega.{arith}
use Rattle.proxies.proofs.Steps.{learned}
use Rattle.proxies.proofs.take_view.Goals as goal

pub returns : goal.returns
returns c =
    let at = 8 * c.proxy_at-at.result in
    learned c.args.settings c.args.store.now c.requires.0 c.args.proxy c.requires.1 c.set_known.new.part at (at + 528)
    (omega arith) (omega arith) (omega arith) c.view-view.result c.view-view.ensures c.set_known.ensures
