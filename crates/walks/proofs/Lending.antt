-- What is passed to a call: elements that lie in memory are lent as a `&mut [T]`, and come back; a `&mut [T]` that ends as it was passed; and a call that
-- requires nothing.
use Prim.Native.Nat.{ℕ}
use mathlib.Core.List.{List, [], ◌∷◌}
use seplogic.Ra.Ura.{Ura}
use base.Logic.{SProp, ent, sep, emp, via, emp∗, comm∗}
use base.Fml.{Lft, GName, fres, fobs, fdead, flent}
use types.Logic.{Logic, sem}
use mir.Syntax.{Lifetime}
use types.Kit.{by, ‵, later, ◌$◌, ◌∵◌, !, qed, use1, use3, drop, fsplit, await, updating, now as at_once, done}
use types.SemTy.{cells, Arr}
use denote.RattleType.{RattleType}
use denote.Memory.{mem}
use denote.Slice.{finally, heres, coded_holeys, res-finally}
use denote.Lend.{Held, slice_back}

module _ {M : Type 1} {𝓤 : Ura M} (𝓛 : Logic 𝓤) (R : RattleType) where
  -- the lifetime of the loan has ended: the elements are the last that the callee left
  open 𝓛 use {H, A}

  pub mut_back : (κ : Lft) (γ : GName) (zs : List R.Denot) (n b o : ℕ) → ent 𝓤
      (sep 𝓤 (A.dead κ) (sep 𝓤 (A.lent κ (Held R n b o γ)) (sem 𝓛 (finally R γ zs)))) (H.⇛ (sem 𝓛 (cells (mem R) zs b o)))
  mut_back κ γ zs n b o =
      qed 𝓛 (‵ (fdead κ) ∷ ‵ (flent κ (Held R n b o γ)) ∷ ‵ (finally R γ zs) ∷ []) ∵ updating ! $
      use3 𝓛 (later (‵ ((Arr (mem R) n).own_at zs b o))) (slice_back 𝓛 R κ γ zs n b o) $ await ! tt $ fsplit ! $ drop ! $ at_once ! $ done !

  -- no one wrote to it: its last elements are those that it has
  pub as_passed : (ℓ : Lifetime) (κ : Lft) (γ : GName) (ys : List R.Denot) → ent 𝓤 (A.obs γ ((coded_holeys R).code (heres R ys))) (sem 𝓛 (finally R γ ys))
  as_passed ℓ κ γ ys =
      qed 𝓛 (‵ (fobs γ ((coded_holeys R).code (heres R ys))) ∷ []) ∵ use1 𝓛 (‵ (fres γ ((coded_holeys R).code (heres R ys))))
      (𝓛.names.obs-res γ ((coded_holeys R).code (heres R ys))) $
      by ! (res-finally 𝓛 ℓ κ R γ ys)

-- what a call that requires nothing asks
pub and_nothing : {M : Type 1} (𝓤 : Ura M) (P : SProp 𝓤) → ent 𝓤 P (sep 𝓤 P (emp 𝓤))
and_nothing 𝓤 P = via 𝓤 (sep 𝓤 (emp 𝓤) P) (emp∗ 𝓤 P) (comm∗ 𝓤 (emp 𝓤) P)
