-- How the code of an event keeps its promise: refused, or accepted.
use mathlib.Core.Path.{◌≡◌, refl, sym, ◌∙◌}
use mathlib.Core.List.{List}
use Prim.Native.Nat.{ℕ, suc}
use Rattle.std.specs.Prelude.{Ok, Err}
use Rattle.rules.specs.declared.refusal.Refusal.{Refusal}
use Rattle.rules.specs.Refusals.{number}
use Rattle.rules.proofs.Refusals.{from_one}
use Rattle.rules.specs.Event.{Event}
use Rattle.rules.specs.Question.{first_no, AllYes}
use Rattle.rules.specs.Step.{rule, step}
use Rattle.rules.proofs.Questions.{none_no}
use Rattle.layout.specs.Store.{decode, render}
use Rattle.layout.proofs.Sound.{SoundWords}
use Rattle.lent.specs.Performs.{Performs}

module _ (e : Event) (ws : List ℕ) where
  -- a refusal by the first question that is answered no
  pub refused : SoundWords ws → (r : Refusal) → number r ≡ first_no (rule (decode ws) e).questions → Performs e ws (Err r) ws
  unfolding step
  refused sd r h =
      let k = from_one r in
      let n : first_no (rule (decode ws) e).questions ≡ suc k.0 = sym h ∙ k.1 in
      record { code = rw n k.1; key = rw n refl; leaves = rw n (sym sd.still) }

  -- an accepted event: no question is answered no
  pub accepted : (after : List ℕ) → first_no (rule (decode ws) e).questions ≡ 0 → after ≡ render (rule (decode ws) e).after ws
      → Performs e ws (Ok (rule (decode ws) e).said.key) after
  unfolding step
  accepted after n h = record { code = rw n refl; key = rw n refl; leaves = h ∙ rw n refl }

  pub accepts : (after : List ℕ) → AllYes (rule (decode ws) e).questions → after ≡ render (rule (decode ws) e).after ws
      → Performs e ws (Ok (rule (decode ws) e).said.key) after
  accepts after y h = accepted after (none_no (rule (decode ws) e).questions y) h
