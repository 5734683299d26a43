-- How the loop of `close_gap` goes: t records, from the i-th on, each take the value of the next.
use mathlib.Core.Path.{◌≡◌, refl, ◌∙◌, ap, subst}
use mathlib.Core.List.{List, [], ◌∷◌}
use Prim.Native.Nat.{ℕ, zero, suc, ◌+◌, ◌-◌, ◌<◌, ◌≤◌}
use native.Mathlib.Omega.{arith}
use Rattle.std.proofs.Math.Numerals.{add-one}
use lib.ListN.{length, get_or, set}
use Rattle.rules.specs.State.{Relay as Held}
use Rattle.rules.specs.Maps.{remove_at}
use Rattle.bag.specs.declared.Relay.{Relay}
use Rattle.relay_list.specs.Relays.{relay_of, relays_of, bag_of, over, Loses}
use Rattle.relay_list.proofs.Elements.{blank}

abbrev pub shift : ℕ → ℕ → List Relay → List Relay
shift zero i l = l
shift (suc t) i l = shift t (suc i) (set l i (get_or l (suc i) blank))

-- a turn
pub one_turn : (last i : ℕ) (l : List Relay) → i < last → shift (last - (i + 1)) (i + 1) (set l i (get_or l (i + 1) blank)) ≡ shift (last - i) i l
one_turn last i l h = let left : last - i ≡ suc (last - (i + 1)) = omega (arith, h) in rw (left, add-one)

behind : (t i : ℕ) (x : Relay) (l : List Relay) → shift t (suc i) (x ∷ l) ≡ x ∷ shift t i l
behind zero i x l = refl
behind (suc t) i x l = behind t (suc i) x (set l i (get_or l (suc i) blank))

abbrev put_first : Relay → List Held → List Held
put_first x l = relay_of x ∷ l

first_goes : (t : ℕ) (x : Relay) (l : List Relay) → t ≤ length l → relays_of (shift t 0 (x ∷ l)) ≡ over (bag_of t l) (x ∷ l)
first_goes zero x l h = refl
first_goes (suc t) x [] h = absurd (omega (arith, h))
first_goes (suc t) x (y ∷ l) h = ap relays_of (behind t 0 y (y ∷ l)) ∙ ap (put_first y) (first_goes t y l (omega (arith, h)))

-- t records lie behind the i-th, and n are left
gap_closed : (i t n : ℕ) (l : List Relay) → i + t ≡ n → n < length l → relays_of (shift t i l) ≡ over (remove_at (bag_of (suc n) l) i) l
unfolding remove_at
gap_closed i t n [] e h = absurd (omega (arith, h))
gap_closed zero t n (x ∷ l) e h =
    let same : t ≡ n = omega (arith, e) in
    let few : t ≤ length l = omega (arith, e, h) in
    subst (λ (m : ℕ). relays_of (shift t 0 (x ∷ l)) ≡ over (bag_of m l) (x ∷ l)) same (first_goes t x l few)
gap_closed (suc i) t zero (x ∷ l) e h = absurd (omega (arith, e))
gap_closed (suc i) t (suc n) (x ∷ l) e h = ap relays_of (behind t i x l) ∙ ap (put_first x) (gap_closed i t n l (omega (arith, e)) (omega (arith, h)))

-- so many turns the loop has
pub lost : (count index : ℕ) (l : List Relay) → index < count → count ≤ length l → Loses count index l (shift (count - 1 - index) index l)
lost count index l within few =
    let all : suc (count - 1) ≡ count = omega (arith, within) in
    let left : index + (count - 1 - index) ≡ count - 1 = omega (arith, within) in
    subst (λ (m : ℕ). Loses m index l (shift (count - 1 - index) index l)) all
    (gap_closed index (count - 1 - index) (count - 1) l left (omega (arith, within, few)))
