-- A look-up of a brick's place: what a search among the places found, and what is said by cases of what a look-up found.
use Rattle.std.proofs.Common.{◌≡◌, Bool, sym, subst, ◌∙◌, Option, Some, None, List, true, false, ℕ, ◌≤◌, ◌<◌, ap, arith}
use Rattle.std.specs.Option.{MatchOption}
use Rattle.std.specs.Bool.{then_some}
use Rattle.lists.specs.Tests.{◌and◌}
use Rattle.words.specs.Words.{words}
use Rattle.rules.specs.declared.settings.Settings.{Settings}
use Rattle.rules.specs.State.{State}
use Rattle.rules.specs.Derived.{up_member}
use Rattle.layout.specs.Contents.{Brick, blank_brick}
use Rattle.layout.specs.Store.{brick_in, decode}
use Rattle.lent.specs.Stores.{StoreOf}
use Rattle.lent.specs.Places.{Stands, PlaceOf, MemberOf}
use Rattle.lent.proofs.Places.{nowhere}

pub place_found : (c : Settings) (bs : List ℕ) → StoreOf c bs → (id : ℕ) → 0 < id → (r : Option ℕ)
    → MatchOption r ((k : ℕ) → 0 ≤ k → k < c.places → (decode (words bs)).ids k ≡ id → ⊥)
    (λ p. (0 ≤ p) × (p < c.places) × ((decode (words bs)).ids p ≡ id) × ((k : ℕ) → 0 ≤ k → k < p → (decode (words bs)).ids k ≡ id → ⊥))
    → PlaceOf c (decode (words bs)) id r
place_found c bs v id some None h = nowhere c bs v id (λ p l e o. h p (omega arith) l e)
place_found c bs v id some (Some p) h = record { inside = h.1; some = some; here = h.2 }

pub by_place : (c : Settings) (s : State) (id : ℕ) (r : Option ℕ) (P : Type 0) (Q : ℕ → Type 0) {R : Type 0} → PlaceOf c s id r → MatchOption r P Q
    → ((p : ℕ) → Stands c s id p → Q p → R) → (brick_in s id ≡ blank_brick → P → R) → R
by_place c s id None P Q h m at_place blank = blank h m
by_place c s id (Some p) P Q h m at_place blank = at_place p h m

-- a brick that stands nowhere is no up member
pub blank_down : (s : State) (id : ℕ) → brick_in s id ≡ blank_brick → up_member s id ≡ false
unfolding ◌and◌
blank_down s id b = ap (λ (k : Brick). k.status.up and k.status.member) b

-- the brick of a look-up, if it is an up member
pub member_found : (c : Settings) (s : State) (id p : ℕ) → Stands c s id p → (b : Bool) (r : Option ℕ) → b ≡ up_member s (s.ids p) → r ≡ then_some b p → MemberOf c s id r
member_found c s id p h true r e f = subst (MemberOf c s id) (sym f) (record { stands = h; up = ap (up_member s) (sym h.here) ∙ sym e })
member_found c s id p h false r e f = subst (MemberOf c s id) (sym f) (ap (up_member s) (sym h.here) ∙ sym e)

pub member_nowhere : (c : Settings) (s : State) (id : ℕ) (r : Option ℕ) → brick_in s id ≡ blank_brick → r ≡ None → MemberOf c s id r
member_nowhere c s id r b f = subst (MemberOf c s id) (sym f) (blank_down s id b)
