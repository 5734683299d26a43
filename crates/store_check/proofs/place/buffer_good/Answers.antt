use mathlib.Core.Path.{refl, ◌∙◌}
use Prim.Native.Nat.{◌+◌, ◌*◌}
use Rattle.words.specs.Words.{words}
use Rattle.layout.specs.Layout.{buffer_at, buffer_codec}
use Rattle.layout.proofs.Lent.{lent}
use Rattle.store_check.proofs.PlaceLaws.{buffer_down, buffer_up}
use native.Mathlib.Omega.{arith}
use Rattle.store_check.proofs.place.buffer_good.Goals as goal

pub returns-then-not-up : goal.returns-then-not-up
returns-then-not-up c = buffer_down _ _ (words c.args.place.now) c.if-not-up.true _ c.read.ensures

pub returns : goal.returns
returns c =
    let s = c.args.place.now in
    c.table_good.ensures ∙ buffer_up _ _ (words s) c.if-not-up.false _
    (lent s (8 * buffer_at) (8 * buffer_at + 8 * buffer_codec.size) buffer_at buffer_codec.size refl refl (omega arith))
