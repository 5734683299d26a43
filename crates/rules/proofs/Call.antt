-- The event that a call makes: of a get with and without its areas, and of any other kind.
use mathlib.Core.Path.{◌≡◌, ap}
use mathlib.Core.Bool.{true, false, not}
use Prim.Native.Nat.{ℕ}
use native.Mathlib.Omega.{arith}
use lib.Dec.{eqb}
use borrow.Author.Tests.{ne_eqb}
use Rattle.lists.specs.Tests.{◌or◌}
use Rattle.lists.proofs.Tests.{either}
use Rattle.rules.specs.Event.{Event, event_from, event_fields}
use Rattle.rules.specs.Call.{Call, get_kind, lends, event_called}
use Rattle.rules.proofs.Event.{kinds_open, made_kind}

module _ (size : ℕ) (call : Call) where
  pub other_called : (call.kind ≡ get_kind → ⊥) → event_called size call ≡ event_from call.kind call.a call.b call.c call.bytes
  unfolding event_called ◌or◌
  other_called u = rw (ne_eqb call.kind get_kind u)

  pub get_called : call.kind ≡ get_kind → lends size call ≡ true → event_called size call ≡ Event.get call.a call.b
  unfolding event_called ◌or◌ kinds_open
  get_called g y = rw (y, g)

  pub get_unlent : call.kind ≡ get_kind → lends size call ≡ false → event_called size call ≡ Event.unknown
  unfolding event_called ◌or◌
  get_unlent g n = rw (n, g)

  -- only a call of get's kind makes a get
  pub called_get : (p b : ℕ) → event_called size call ≡ Event.get p b → call.kind ≡ get_kind
  unfolding event_called event_fields
  called_get p b =
      either (λ (e : Event). e ≡ Event.get p b → call.kind ≡ get_kind) (not (eqb call.kind get_kind) or lends size call)
      (λ _ q. made_kind call.a call.b call.c call.bytes call.kind (Event.get p b) q (omega arith))
      (λ _ q. let n : ◌≡◌ {A = ℕ} 0 10 = ap (λ (e : Event). (event_fields e).kind) q in absurd (omega (arith, n)))
