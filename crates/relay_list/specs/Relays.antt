-- A lent slice of records as the bag of the rules: the first `count` of them, oldest first.
use Rattle.std.specs.Prelude.{◌≡◌, Bool, cond, Result, Ok, Err, List, [], ◌∷◌, ◌++◌, map, ℕ, ◌<◌, ◌≤◌, ltb, leb, length, get_or, take, drop}
use Rattle.lists.specs.Tests.{◌and◌}
use Rattle.rules.specs.declared.refusal.Refusal.{Refusal}
use Rattle.rules.specs.Limits.{max_relays}
use Rattle.rules.specs.State.{Relay as Held, blank_relay}
use Rattle.rules.specs.Maps.{remove_at}
use Rattle.rules.specs.Question.{Question, ◌asks◌, first_no}
use Rattle.layout.specs.Layout.{bag_codec}
use Rattle.bag.specs.declared.Relay.{Relay}
pub use Rattle.bag.specs.Relays.{relay_of}

-- all records, as the rules have them; lists of records that read as the same relays are the same (`same_records`)
abbrev pub relays_of : List Relay → List Held
relays_of list = map relay_of list

-- those in use
abbrev pub bag_of : ℕ → List Relay → List Held
bag_of count list = map relay_of (take count list)

-- a bag over records: those past it keep what they hold
abbrev pub over : List Held → List Relay → List Held
over bag list = bag ++ drop (length bag) (relays_of list)

-- the relay of a delivery, all 0 where there is none
abbrev pub delivered_relay : Result Relay Refusal → Held
delivered_relay (Ok relay) = relay_of relay
delivered_relay (Err _) = blank_relay

-- ---- send
-- 10: room in the slice and in the bag?
abbrev pub has_room : ℕ → List Relay → Bool
has_room count list = ltb count (length list) and ltb count max_relays

abbrev pub send_asks : ℕ → List Relay → List Question
send_asks count list = (10 asks has_room count list) ∷ []

-- a relay is sent: it is then the youngest. Where there is no room the records stay
pub record Sends (count : ℕ) (relay : Relay) (before : List Relay) (code : ℕ) (after : List Relay) : Type 0 where
  pub number : code ≡ first_no (send_asks count before)
  pub records : relays_of after ≡ cond (has_room count before) (over (bag_of count before ++ relay_of relay ∷ []) before) (relays_of before)

-- ---- deliver, drop
-- the records in use lie in the slice, and one of them at the index
abbrev pub Within : ℕ → ℕ → List Relay → Type 0
Within index count list = (index < count) × (count ≤ length list)

abbrev pub is_within : ℕ → ℕ → List Relay → Bool
is_within index count list = ltb index count and leb count (length list)

-- 3: the index below the count, and the records in use within the slice?
abbrev pub index_asks : ℕ → ℕ → List Relay → List Question
index_asks index count list = (3 asks is_within index count list) ∷ []

-- the rules' `relay_at`, on records
abbrev pub record_at : ℕ → ℕ → List Relay → Held
record_at index count list = get_or (bag_of count list) index blank_relay

-- the relay at an index has left, by the rules' `remove_at`
abbrev pub without : ℕ → ℕ → List Relay → List Held
without index count list = over (remove_at (bag_of count list) index) list

abbrev pub Loses : ℕ → ℕ → List Relay → List Relay → Type 0
Loses count index before after = relays_of after ≡ without index count before

-- a relay is dropped, or delivered: it is given and has left. Where the index is refused the records stay
pub record Drops (count index : ℕ) (before : List Relay) (code : ℕ) (after : List Relay) : Type 0 where
  pub number : code ≡ first_no (index_asks index count before)
  pub records : relays_of after ≡ cond (is_within index count before) (without index count before) (relays_of before)

pub record Delivers (count index : ℕ) (before : List Relay) (code : ℕ) (relay : Held) (after : List Relay) : Type 0 where
  pub number : code ≡ first_no (index_asks index count before)
  pub given : relay ≡ cond (is_within index count before) (record_at index count before) blank_relay
  pub records : relays_of after ≡ cond (is_within index count before) (without index count before) (relays_of before)

-- ---- the bag's flat words as records, and back
-- the records begin with the bag that the words hold, and the count is its length
pub record Loads (ws : List ℕ) (before : List Relay) (count : ℕ) (after : List Relay) : Type 0 where
  pub number : count ≡ length (bag_codec.dec ws)
  pub records : relays_of after ≡ over (bag_codec.dec ws) before

-- the records in use are the bag that the words hold, the other words as they were
abbrev pub Stores : List Relay → ℕ → List ℕ → List ℕ → Type 0
Stores list count before after = after ≡ bag_codec.enc (bag_of count list) before
