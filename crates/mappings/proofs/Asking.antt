-- What a block's questions say once they are answered yes.
use mathlib.Core.Path.{◌≡◌, refl}
use mathlib.Core.Bool.{true}
use Prim.Native.Nat.{ℕ}
use Rattle.lists.specs.Tests.{◌and◌}
use Rattle.rules.specs.State.{State}
use Rattle.rules.specs.Question.{first_no, knows_view, primary_up}
use Rattle.rules.proofs.Questions.{all_yes, front_none}
use Rattle.lent.proofs.Proxies.{OwnBlock, block_yes}
use Rattle.mappings.specs.Asks.{access_asks}

pub record Access (s : State) (p b : ℕ) : Type 0 where
  pub block : OwnBlock p b
  pub knows : knows_view s p ≡ true
  pub primary : primary_up s b ≡ true

pub access_yes : (s : State) (p b : ℕ) → first_no (access_asks s p b) ≡ 0 → Access s p b
unfolding ◌and◌
access_yes s p b e =
    let y = all_yes (access_asks s p b) refl e in
    record { block = block_yes p b (front_none _ _ e); knows = y.1.1.1.0; primary = y.1.1.1.1.0 }
