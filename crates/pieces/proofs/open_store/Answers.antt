use mathlib.Core.Path.{◌≡◌, sym, ◌∙◌}
use Prim.Native.Nat.{ℕ}
use native.Mathlib.Omega.{arith}
use lib.ListN.{take}
use lib.Seq.{take_at, length-take-le}
use Rattle.lists.proofs.Runs.{below_of, below_take}
use Rattle.store.specs.Calls.{settings}
use Rattle.pieces.proofs.Opening.{opens_none, opens_large, opens}
use Rattle.pieces.proofs.open_store.Goals as goal

pub returns-in_default : goal.returns-in_default
returns-in_default c =
    let a = c.args in
    opens_none (settings a.given.places a.given.size a.given.entries a.given.chunks) _ _ (sym c.in_default.is ∙ c.length.ensures)

pub returns-then-bytes : goal.returns-then-bytes
returns-then-bytes c =
    let a = c.args in
    opens_large (settings a.given.places a.given.size a.given.entries a.given.chunks) c.in-Ok.bytes (sym c.in-Ok.is ∙ c.length.ensures) _ c.if-bytes.true

pub slice_bounds-format_store-end-2 : goal.slice_bounds-format_store-end-2
slice_bounds-format_store-end-2 c =
    sym (length-take-le c.in-Ok.bytes c.args.room.now (omega (arith, c.requires, c.if-bytes.false)))

pub returns : goal.returns
returns c =
    let a = c.args in
    let n = c.in-Ok.bytes in
    let f = c.format_store in
    let part = length-take-le n a.room.now (omega (arith, c.requires, c.if-bytes.false)) in
    opens (settings a.given.places a.given.size a.given.entries a.given.chunks) n (sym c.in-Ok.is ∙ c.length.ensures) (take n a.room.now) f.new.store
    _ _ c.if-bytes.false part
    (below_take n (below_of 256 a.room.now (λ i. omega (arith, c.slice_known-1.given i)))) f.ensures
    (take_at f.new.store _ n (f.auto.store ∙ part))
