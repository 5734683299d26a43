-- What is known of a place once every question is answered yes.
use mathlib.Core.Path.{◌≡◌, refl}
use mathlib.Core.List.{List}
use mathlib.Core.Bool.{true, false}
use Prim.Native.Nat.{ℕ, ◌<◌}
use native.Mathlib.Omega.{arith}
use borrow.Author.Tests.{eqb-false, ltb-true, not-true}
use Rattle.lists.specs.Tests.{◌and◌}
use Rattle.lists.proofs.Tests.{and_l}
use Rattle.words.specs.Words.{words}
use Rattle.rules.specs.declared.settings.Settings.{Settings}
use Rattle.rules.specs.Limits.{max_id}
use Rattle.rules.specs.State.{State}
use Rattle.rules.specs.Derived.{is_empty}
use Rattle.rules.specs.Question.{first_no, is_place}
use Rattle.rules.specs.Membership.{crash_asks, lose_asks, rise_asks, join_asks}
use Rattle.rules.proofs.Questions.{all_yes}
use Rattle.layout.specs.Store.{decode}
use Rattle.lent.specs.Stores.{StoreOf}
use Rattle.lent.specs.Places.{Stands}
use Rattle.lent.proofs.Places.{place_inside, up_filled}

module _ (c : Settings) (bs : List ℕ) (v : StoreOf c bs) (p : ℕ) where
  abbrev s : State
  s = decode (words bs)

  abbrev Taken : Type 0
  Taken = Stands c s (s.ids p) p

  stands : is_place s p ≡ true → is_empty s p ≡ false → Taken
  stands y n = let some = eqb-false (s.ids p) 0 n in record { inside = place_inside c bs v p y; some = omega arith; here = refl }

  pub crash_yes : first_no (crash_asks s p) ≡ 0 → Taken
  unfolding ◌and◌
  crash_yes e =
      let y = all_yes (crash_asks s p) refl e in
      record { inside = place_inside c bs v p y.0; some = up_filled c bs v p y.1.0; here = refl }

  pub lose_yes : first_no (lose_asks s p) ≡ 0 → Taken
  unfolding ◌and◌
  lose_yes e = let y = all_yes (lose_asks s p) refl e in stands y.0 (not-true _ y.1.0)

  pub rise_yes : first_no (rise_asks s p) ≡ 0 → Taken
  unfolding ◌and◌
  rise_yes e = let y = all_yes (rise_asks s p) refl e in stands y.0 (not-true _ (and_l _ _ y.1.0))

  -- an id is left
  pub join_yes : first_no (join_asks s p) ≡ 0 → (p < c.places) × (s.given < max_id)
  unfolding ◌and◌
  join_yes e = let y = all_yes (join_asks s p) refl e in (place_inside c bs v p y.0, ltb-true s.given max_id y.1.0)
