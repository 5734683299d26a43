use Prim.Native.Nat.{◌+◌, ◌*◌}
use native.Mathlib.Omega.{arith}
use Rattle.proxies.proofs.Steps.{cleared}
use Rattle.proxies.proofs.clear_proxy.Goals as goal

pub returns : goal.returns
returns c =
    let at = 8 * c.proxy_at-at.result in
    cleared c.args.settings c.args.store.now c.requires.0 c.args.proxy c.requires.1 c.clear.new.part at (at + 528)
    (omega arith) (omega arith) (omega arith) c.clear.ensures
