-- What mend answers where the place holds an up member: is there room, and if so the effect.
use mathlib.Core.Path.{◌≡◌, refl, sym, ap, subst, ◌∙◌}
use mathlib.Core.Bool.{Bool, cond}
use mathlib.Core.List.{List, [], ◌∷◌}
use Prim.Native.Nat.{ℕ}
use native.Mathlib.Omega.{arith}
use lib.Dec.{leb}
use lib.ListN.{length}
use Rattle.std.specs.Prelude.{Ok, Err}
use Rattle.lists.specs.Tests.{◌and◌}
use Rattle.lists.proofs.Tests.{by}
use Rattle.words.specs.Words.{words}
use Rattle.rules.specs.declared.refusal.Refusal.{Refusal}
use Rattle.rules.specs.declared.settings.Settings.{Settings}
use Rattle.rules.specs.Event.{Event}
use Rattle.rules.specs.State.{State}
use Rattle.rules.specs.Refusals.{number}
use Rattle.rules.specs.Question.{◌asks◌, first_no}
use Rattle.rules.specs.Step.{rule}
use Rattle.rules.specs.Upkeep.{mended, mend_effect, mend_asks}
use Rattle.rules.proofs.Questions.{first_yes, first_stop, none_asked, first_more}
use Rattle.rules.proofs.Refusals.{never_zero}
use Rattle.layout.specs.Store.{decode, render}
use Rattle.lent.specs.Asks.{place_asks}
use Rattle.lent.specs.Performs.{Performs}
use Rattle.lent.specs.Stores.{StoreOf}
use Rattle.lent.proofs.Performs.{refused, accepted}
use Rattle.lent.proofs.Stores.{settings_are}

module _ (c : Settings) (bs : List ℕ) (v : StoreOf c bs) (place : ℕ) (y : first_no (place_asks (decode (words bs)) place) ≡ 0) where
  abbrev s : State
  s = decode (words bs)

  abbrev room : Bool
  room = leb (length (mended s (s.ids place))) c.chunks

  -- it is the one question that is left
  left : first_no ((10 asks room) ∷ []) ≡ first_no (mend_asks s place)
  unfolding ◌and◌
  left =
      ap (λ (x : Settings). first_no ((10 asks leb (length (mended s (s.ids place))) x.chunks) ∷ [])) (sym (settings_are c bs v))
      ∙ sym (first_more (place_asks s place) _ refl y)

  module _ (after : List ℕ) (e : after ≡ cond room (render (mend_effect s (s.ids place)) (words bs)) (words bs)) where
    pub full : (r : Refusal) → number r ≡ first_no ((10 asks room) ∷ []) → Performs (Event.mend place) (words bs) (Err r) after
    unfolding rule
    full r h =
        by room (λ t. absurd (never_zero r (h ∙ first_yes 10 _ t ∙ none_asked)))
        (λ n. subst (Performs (Event.mend place) (words bs) (Err r)) (sym (e ∙ rw n refl)) (refused (Event.mend place) (words bs) v.sound r (h ∙ left)))

    pub done : 0 ≡ first_no ((10 asks room) ∷ []) → Performs (Event.mend place) (words bs) (Ok 0) after
    unfolding rule
    done h =
        by room (λ t. accepted (Event.mend place) (words bs) after (sym (h ∙ left)) (e ∙ rw t refl))
        (λ n. absurd (omega (arith, h ∙ first_stop 10 _ n)))
