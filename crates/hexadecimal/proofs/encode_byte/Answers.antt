use mathlib.Core.Path.{refl}
use mathlib.Core.List.{[], ◌∷◌}
use Prim.Native.Nat.{◌+◌}
use native.Mathlib.Omega.{arith}
use Rattle.hexadecimal.specs.Hex.{hex}
use Rattle.area.proofs.Laws.{onto_then}
use Rattle.hexadecimal.proofs.encode_byte.Goals as goal

-- `hex::encode_byte` meets its contract.

pub returns : goal.returns
unfolding hex
returns c =
    let a = c.args in
    let p = c.put in
    let q = c.put-2 in
    rw (← c.digit.ensures, ← c.digit-2.ensures)
    (onto_then a.at (a.at + 1) (c.digit.result ∷ [])
    (c.digit-2.result ∷ []) a.area.now p.new.area q.new.area (omega arith) refl p.ensures q.ensures)
