-- A promise for one number of a kind is one for whatever is that number; a number of no kind is refused.
use mathlib.Core.Path.{◌≡◌, refl, sym, subst}
use mathlib.Core.List.{List}
use Prim.Native.Nat.{ℕ}
use Rattle.std.specs.Prelude.{Result, Err}
use Rattle.rules.specs.declared.refusal.Refusal.{Refusal}
use Rattle.rules.specs.declared.refusal.Refusal.TheVariants.{BadInput}
use Rattle.rules.specs.Event.{Event}
use Rattle.rules.specs.Question.{first_no}
use Rattle.rules.specs.Step.{rule}
use Rattle.layout.proofs.Sound.{SoundWords}
use Rattle.lent.specs.Performs.{Performs}
use Rattle.lent.proofs.Performs.{refused}

pub at_kind : {k kind : ℕ} (e : ℕ → Event) {before : List ℕ} {r : Result ℕ Refusal} {after : List ℕ} → kind ≡ k → Performs (e k) before r after
    → Performs (e kind) before r after
at_kind e {before} {r} {after} q p = subst (λ (n : ℕ). Performs (e n) before r after) (sym q) p

pub unknown_refused : (ws : List ℕ) → SoundWords ws → Performs Event.unknown ws (Err BadInput) ws
unfolding rule first_no
unknown_refused ws sd = refused Event.unknown ws sd BadInput refl
