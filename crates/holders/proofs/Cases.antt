-- What a search found, by cases.
use Rattle.std.proofs.Common.{◌≡◌, Option, Some, None, [], true, false, ℕ, ◌≤◌, ◌<◌}
use Rattle.std.specs.Option.{MatchOption}
use Rattle.rules.specs.declared.settings.Settings.{Settings}
use Rattle.rules.specs.State.{State}
use Rattle.holders.specs.declared.Location.{Location}
use Rattle.holders.specs.Members.{between, NextAt, NextIn, LiesAt, LiesWith, member_saved, NextSavedAt, NextSaved}

module _ (c : Settings) (s : State) where
  pub by_member : (from to : ℕ) (r : Option ℕ) (P : Type 0) (Q : ℕ → Type 0) {R : Type 0} → NextIn c s from to r → MatchOption r P Q
      → ((p : ℕ) → NextAt c s from to p → Q p → R) → (between s from to ≡ [] → P → R) → R
  by_member from to None P Q h m at_place none = none h m
  by_member from to (Some p) P Q h m at_place none = at_place p h m

  pub by_location : (id key : ℕ) (r : Option Location) (P : Type 0) (Q : Location → Type 0) {R : Type 0} → LiesWith c s id key r → MatchOption r P Q
      → ((at : Location) → LiesAt c s id key at.place at.row → Q at → R) → (id ≡ 0 → P → R) → R
  by_location id key None P Q h m at_location none = none h m
  by_location id key (Some at) P Q h m at_location none = at_location at h m

  pub by_saved : (key from : ℕ) (r : Option ℕ) (P : Type 0) (Q : ℕ → Type 0) {R : Type 0} → NextSaved c s key from r → MatchOption r P Q
      → ((p : ℕ) → NextSavedAt c s key from p → Q p → R) → (((p : ℕ) → p < c.places → from ≤ p → member_saved s key p ≡ false) → P → R) → R
  by_saved key from None P Q h m at_place none = none h m
  by_saved key from (Some p) P Q h m at_place none = at_place p h m

  pub saved_found : (key from : ℕ) (r : Option ℕ)
      → MatchOption r ((k : ℕ) → from ≤ k → k < c.places → member_saved s key k ≡ false)
      (λ p. (from ≤ p) × (p < c.places) × (member_saved s key p ≡ true) × ((k : ℕ) → from ≤ k → k < p → member_saved s key k ≡ false))
      → NextSaved c s key from r
  saved_found key from None h = λ p l m. h p m l
  saved_found key from (Some p) h = record { inside = h.1; saved = h.2; low = h.0; before = λ q l m. h.3 q m l }
