use mathlib.Core.Path.{◌≡◌}
use native.Mathlib.Omega.{arith}
use Prim.Native.Nat.{◌+◌}
use Rattle.words.specs.Words.{words}
use Rattle.layout.specs.Layout.{proxy_at}
use Rattle.layout.proofs.Parts.{view_read}
use Rattle.lent.proofs.Proxies.{known_read}
use Rattle.lent.proofs.proxy.knows_view.Goals as goal

pub returns : goal.returns
returns c =
    let known = known_read c.args.settings c.args.store.now c.requires.0 c.args.proxy c.requires.1 in
    let view = view_read (words c.args.store.now) c.requires.0.sound.size in
    let at : c.proxy_at.result + 0 ≡ proxy_at c.args.settings c.args.proxy = omega arith in
    rw (known, view, c.read-known.ensures, c.read.ensures, at)
