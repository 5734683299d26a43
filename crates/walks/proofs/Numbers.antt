-- A parameter with two numbers beside it, as a call asks for them and as a function has them at exit.
use mathlib.Core.Path.{refl}
use mathlib.Core.List.{[], ◌∷◌}
use Prim.Native.Nat.{ℕ, ◌<◌, ◌^◌}
use seplogic.Ra.Ura.{Ura}
use mir.Syntax.{w64}
use mir.Val.{vint}
use base.Logic.{ent, sep}
use base.Fml.{Lft, Share, Fml, fsep, ftrue, flft}
use types.Logic.{Logic, sem}
use types.Kit.{‵, ◌$◌, ◌∵◌, !, qed, move, join, fjoin, frame, done}
use denote.Laws.{Is}
use denote.Plain.{uint_Makes}
use denote.Builtin.{usize}
use denote.Steps.{owned, nothing}

module _ (first second : ℕ) where
  -- what is had of the parameter, and the two numbers
  abbrev pub AndTwo : Fml → Fml
  AndTwo had = fsep had (fsep (usize.own_val first (vint w64 first ∷ [])) (fsep (usize.own_val second (vint w64 second ∷ [])) ftrue))

  module _ {M : Type 1} {𝓤 : Ura M} (𝓛 : Logic 𝓤) (κ : Lft) (q : Share) (first_fits : first < 2 ^ 64)
      (second_fits : second < 2 ^ 64) where
    open 𝓛 use {A}

    pub and_two : (had : Fml) → ent 𝓤 (sep 𝓤 (A.lft κ q) (sem 𝓛 had)) (sep 𝓤 (sep 𝓤 (A.lft κ q) (sem 𝓛 ftrue)) (sem 𝓛 (AndTwo had)))
    and_two had =
        qed 𝓛 (‵ (flft κ q) ∷ ‵ had ∷ []) ∵ nothing ! $ move ! (1 ∷ 0 ∷ []) $ join ! $ frame ! $
        nothing ! $ owned ! usize (Is usize) (uint_Makes 𝓛 w64) second _ (refl, second_fits) $ fjoin ! $
        owned ! usize (Is usize) (uint_Makes 𝓛 w64) first _ (refl, first_fits) $ fjoin ! $ move ! (1 ∷ 0 ∷ []) $ fjoin ! $ done !
