use mathlib.Core.Path.{sym, ap, ◌∙◌}
use Prim.Native.Nat.{◌+◌, ◌*◌}
use native.Mathlib.Omega.{arith}
use Rattle.layout.specs.Layout.{agreed_codec, agreed_at, agreed_words}
use Rattle.layout.proofs.Lent.{lent}
use Rattle.lent.proofs.Buckets.{agreed_is}
use Rattle.lent.proofs.bucket.agreed.Goals as goal

pub returns : goal.returns
returns c =
    let at = 8 * c.agreed_at-at.result in
    c.read.ensures
    ∙ ap agreed_codec.dec (lent c.args.store.now at (at + 64) (agreed_at c.args.bucket) agreed_words (omega arith) (omega arith) (omega arith))
    ∙ sym (agreed_is c.args.settings c.args.store.now c.requires.0 c.args.bucket c.requires.1)
