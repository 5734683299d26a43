-- Words compared by the bits in which they differ.
use mathlib.Core.Path.{◌≡◌, ap, ◌∙◌}
use Prim.Native.Nat.{ℕ}
use native.Mathlib.Omega.{arith}
use lib.Dec.{eqb}
use lib.Bits.{bit_or, bit_xor, or_add_and, xor_add_and, and_le_l, and_le_r, xor_self}
use borrow.Author.Tests.{eqb-true, eq-eqb}
use Rattle.lists.specs.Tests.{◌and◌}
use Rattle.lists.proofs.Tests.{and_l, and_r, both, same_test}

-- no bit was another and none is now just where none was and these two words are the same
pub no_other : (o x y : ℕ) → eqb (bit_or o (bit_xor x y)) 0 ≡ (eqb o 0 and eqb x y)
no_other o x y =
    let z : ℕ = bit_xor x y in
    same_test _ _
    (λ t. let e : bit_or o z ≡ 0 = eqb-true _ _ t in
    let n : (o ≡ 0) × (z ≡ 0) = (omega (arith, e, or_add_and o z, and_le_l o z, and_le_r o z), omega (arith, e, or_add_and o z, and_le_l o z, and_le_r o z)) in
    both _ _ (eq-eqb o 0 n.0) (eq-eqb x y (omega (arith, n.1, xor_add_and x y, and_le_l x y, and_le_r x y))))
    (λ t. eq-eqb _ _ (ap (λ (k : ℕ). bit_or k z) (eqb-true o 0 (and_l _ _ t)) ∙ ap (λ (k : ℕ). bit_xor k y) (eqb-true x y (and_r _ _ t)) ∙ xor_self y))
