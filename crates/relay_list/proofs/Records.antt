-- A slice of records as a bag, and what send, deliver and drop promise of it.
use mathlib.Core.Path.{◌≡◌, refl, sym, ◌∙◌, ap}
use mathlib.Core.Bool.{true, false}
use mathlib.Core.List.{List, [], ◌∷◌, ◌++◌, map}
use Prim.Native.Nat.{ℕ, zero, suc, ◌<◌, ◌≤◌}
use native.Mathlib.Omega.{arith}
use borrow.Author.Tests.{ltb-true, leb-true}
use lib.ListN.{length, get_or, set, take, drop}
use Rattle.lists.proofs.Tests.{and_l, and_r}
use Rattle.rules.specs.State.{Relay as Held, blank_relay}
use Rattle.rules.specs.Question.{first_no}
use Rattle.bag.specs.declared.Relay.{Relay}
use Rattle.relay_list.specs.Relays.{relay_of, relays_of, bag_of, over, has_room, is_within, record_at, Sends, Drops, Delivers, Loses, Within}
use Rattle.relay_list.proofs.Elements.{blank}

abbrev put_first : Relay → List Held → List Held
put_first x l = relay_of x ∷ l

-- ---- a record is no more than the relay that it stands for
abbrev record_of : Held → Relay
record_of h = record { view = record { 0 = h.view }; bucket = h.bucket; order = h.order; block = record { 0 = h.block }; key = record { 0 = h.key } }

records_back : (list : List Relay) → map record_of (relays_of list) ≡ list
records_back [] = refl
records_back (r ∷ list) = ap (λ (l : List Relay). r ∷ l) (records_back list)

pub same_records : (one other : List Relay) → relays_of one ≡ relays_of other → one ≡ other
same_records one other e = sym (records_back one) ∙ ap (map record_of) e ∙ records_back other

-- ---- the bag
pub bag_length : (count : ℕ) (list : List Relay) → count ≤ length list → length (bag_of count list) ≡ count
bag_length zero list h = refl
bag_length (suc count) [] h = absurd (omega (arith, h))
bag_length (suc count) (r ∷ list) h = ap suc (bag_length count list (omega (arith, h)))

pub held_at : (count index : ℕ) (list : List Relay) → index < count → count ≤ length list → relay_of (get_or list index blank) ≡ record_at index count list
held_at zero index list h g = absurd (omega (arith, h))
held_at (suc count) index [] h g = absurd (omega (arith, g))
held_at (suc count) zero (r ∷ list) h g = refl
held_at (suc count) (suc index) (r ∷ list) h g = held_at count index list (omega (arith, h)) (omega (arith, g))

pub next_bag : (count : ℕ) (list : List Relay) → count < length list → bag_of (suc count) list ≡ bag_of count list ++ relay_of (get_or list count blank) ∷ []
next_bag count [] h = absurd (omega (arith, h))
next_bag zero (r ∷ list) h = refl
next_bag (suc count) (r ∷ list) h = ap (put_first r) (next_bag count list (omega (arith, h)))

-- ---- records that begin with a bag
pub bag_over : (bag : List Held) (after before : List Relay) → relays_of after ≡ over bag before → bag_of (length bag) after ≡ bag
bag_over bag after before e = take_map (length bag) after ∙ ap (take (length bag)) e ∙ front bag (drop (length bag) (relays_of before))
  where
    take_map : (n : ℕ) (l : List Relay) → bag_of n l ≡ take n (relays_of l)
    take_map zero l = refl
    take_map (suc n) [] = refl
    take_map (suc n) (x ∷ l) = ap (put_first x) (take_map n l)

    front : (b rest : List Held) → take (length b) (b ++ rest) ≡ b
    front [] rest = refl
    front (x ∷ b) rest = ap (λ (l : List Held). x ∷ l) (front b rest)

-- ---- a relay is put behind those in use
youngest : (count : ℕ) (r : Relay) (list : List Relay) → count < length list → relays_of (set list count r) ≡ over (bag_of count list ++ relay_of r ∷ []) list
youngest count r [] h = absurd (omega (arith, h))
youngest zero r (x ∷ list) h = refl
youngest (suc count) r (x ∷ list) h = ap (put_first x) (youngest count r list (omega (arith, h)))

pub sent : (count : ℕ) (r : Relay) (list : List Relay) → has_room count list ≡ true → Sends count r list 0 (set list count r)
unfolding first_no
sent count r list room = record { number = rw room; records = rw room (youngest count r list (ltb-true count (length list) (and_l _ _ room))) }

pub unsent : (count : ℕ) (r : Relay) (list : List Relay) → has_room count list ≡ false → Sends count r list 10 list
unfolding first_no
unsent count r list full = record { number = rw full; records = rw full }

-- ---- a relay leaves, or is not there
pub within_is : (index count : ℕ) (list : List Relay) → is_within index count list ≡ true → Within index count list
within_is index count list there = (ltb-true index count (and_l _ _ there), leb-true count (length list) (and_r _ _ there))

module _ (count index : ℕ) (list : List Relay) where
  pub dropped : (after : List Relay) → is_within index count list ≡ true → Loses count index list after → Drops count index list 0 after
  unfolding first_no
  dropped after there e = record { number = rw there; records = rw there e }

  pub undropped : is_within index count list ≡ false → Drops count index list 3 list
  unfolding first_no
  undropped none = record { number = rw none; records = rw none }

  pub delivered : (relay : Relay) (after : List Relay) → is_within index count list ≡ true → relay_of relay ≡ record_at index count list
      → Loses count index list after
      → Delivers count index list 0 (relay_of relay) after
  unfolding first_no
  delivered relay after there same e = record { number = rw there; given = rw there same; records = rw there e }

  pub undelivered : is_within index count list ≡ false → Delivers count index list 3 blank_relay list
  unfolding first_no
  undelivered none = record { number = rw none; given = rw none; records = rw none }
