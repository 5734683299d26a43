-- The bag of a lent store, and a relay that is read from it.
use Rattle.std.specs.Prelude.{◌≡◌, List, Bool, true, ℕ, ◌*◌, ◌≤◌, ◌<◌, ltb, eqb, length, get_or}
use Rattle.lists.specs.Tests.{◌and◌}
use Rattle.words.specs.Words.{words}
use Rattle.rules.specs.declared.settings.Settings.{Settings}
use Rattle.rules.specs.Limits.{max_relays}
use Rattle.rules.specs.State.{State, Relay}
use Rattle.rules.specs.Maps.{relay_at}
use Rattle.rules.specs.Derived.{bucket_no}
use Rattle.rules.specs.Question.{first_no}
use Rattle.tables.specs.Tables.{IsTable}
use Rattle.layout.specs.Layout.{bag_codec, bag_at, places_at}
use Rattle.layout.specs.Store.{store_bytes}
use Rattle.bag.specs.Relays.{relay_words}
use Rattle.bag.specs.declared.Relay.{Relay as Read}
use Rattle.relays.specs.Asks.{take_asks}

-- ---- the bag
-- from which byte to which it lies, in a store of these settings
pub record BagSpan (settings : Settings) (from to : ℕ) : Type 0 where
  pub start : from ≡ 8 * bag_at settings
  pub end : to ≡ 8 * places_at settings
  pub inside : to ≤ store_bytes settings

-- lent to be read
pub record BagPart (relays : List Relay) (part : List ℕ) : Type 0 where
  pub table : IsTable relay_words max_relays (words part) (length part)
  pub same : bag_codec.dec (words part) ≡ relays
  pub count : get_or (words part) 0 0 ≡ length relays

-- ---- a relay
-- one that the code has read, with its block's bucket
abbrev pub relay_of : State → Read → Relay
relay_of s r = record { view = r.view.0; bucket = bucket_no s r.block.0; order = r.order; block = r.block.0; key = r.key.0 }

-- of the present view, and its number higher than the highest taken
abbrev pub takes_relay : State → Relay → Bool
takes_relay s r = eqb r.view s.view and ltb (s.bucket r.bucket).taken r.order

-- it is the relay at an index
pub record FoundAt (s : State) (index : ℕ) (r : Relay) : Type 0 where
  pub inside : index < length s.bag
  pub same : r ≡ relay_at s index

-- and the backup takes it
pub record Takeable (s : State) (index : ℕ) (r : Relay) : Type 0 where
  pub found : FoundAt s index r
  pub taken : takes_relay s r ≡ true
  pub asked : first_no (take_asks s r) ≡ 0
