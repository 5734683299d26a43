-- Which answers have bytes: those of an accepted get, and no others.
use mathlib.Core.Path.{◌≡◌, refl, sym, ◌∙◌}
use mathlib.Core.List.{List, []}
use mathlib.Core.Bool.{false}
use Prim.Native.Nat.{ℕ}
use native.Mathlib.Omega.{arith}
use lib.Dec.{eqb}
use borrow.Author.Tests.{eq-eqb}
use Rattle.lists.specs.Tests.{◌and◌}
use Rattle.lists.proofs.Tests.{impossible}
use Rattle.rules.specs.Event.{Event, event_from, event_fields}
use Rattle.rules.specs.Call.{get_kind}
use Rattle.rules.specs.State.{State}
use Rattle.rules.specs.Step.{Outcome, rule, step}
use Rattle.rules.proofs.Event.{made_kind}
use Rattle.rules.proofs.Step.{Stepped, refused, accepted, stepped}

no_bytes : (s : State) (e : Event) → ((event_fields e).kind ≡ get_kind → ⊥) → (rule s e).said.bytes ≡ []
unfolding rule event_fields
no_bytes s (Event.put p i b d) n = refl
no_bytes s (Event.copy k) n = refl
no_bytes s (Event.savelog i) n = refl
no_bytes s (Event.map p b) n = refl
no_bytes s (Event.send b) n = refl
no_bytes s (Event.deliver i) n = refl
no_bytes s (Event.drop i) n = refl
no_bytes s (Event.savemap i) n = refl
no_bytes s (Event.done p b) n = refl
no_bytes s (Event.get p b) n = absurd (n refl)
no_bytes s (Event.abandon p b) n = refl
no_bytes s (Event.learn p) n = refl
no_bytes s (Event.reset p) n = refl
no_bytes s (Event.crash i) n = refl
no_bytes s (Event.lose i) n = refl
no_bytes s (Event.rise i) n = refl
no_bytes s (Event.join i) n = refl
no_bytes s Event.view n = refl
no_bytes s (Event.fetch g) n = refl
no_bytes s (Event.ready g) n = refl
no_bytes s (Event.mend i) n = refl
no_bytes s (Event.collect i) n = refl
no_bytes s Event.unknown n = refl

pub only_get_shows : (s : State) (k a b c : ℕ) (bytes : List ℕ) → (eqb k get_kind and eqb (step s (event_from k a b c bytes)).code 0) ≡ false
    → (step s (event_from k a b c bytes)).said.bytes ≡ []
unfolding ◌and◌
only_get_shows s k a b c bytes = go (step s (event_from k a b c bytes)) (stepped s (event_from k a b c bytes))
  where
    go : (o : Outcome) → Stepped s (event_from k a b c bytes) o → (eqb k get_kind and eqb o.code 0) ≡ false → o.said.bytes ≡ []
    go o (refused _) f = refl
    go o (accepted _) f =
        no_bytes s (event_from k a b c bytes)
        (λ e. let q : k ≡ get_kind = made_kind a b c bytes k _ refl (omega (arith, e)) ∙ e in impossible (sym (rw (eq-eqb k get_kind q) at f)))
