-- Between the two bridges: a bag in words is loaded as records, an event is carried out on them, and they are stored over the same words.
use Rattle.std.specs.Prelude.{◌≡◌, List, [], ◌∷◌, ◌++◌, ℕ, suc, ◌-◌, ◌<◌, length}
use Rattle.rules.specs.Limits.{max_relays}
use Rattle.rules.specs.State.{Relay as Held}
use Rattle.rules.specs.Maps.{remove_at}
use Rattle.codec.specs.Codec.{change}
use Rattle.layout.specs.Layout.{bag_codec}
use Rattle.bag.specs.Relays.{relay_in_words}
use Rattle.bag.specs.declared.Relay.{Relay}
use Rattle.relay_list.specs.Relays.{relay_of, bag_of, Sends, Drops, Delivers, Stores}

-- `count` records of a list were loaded from these words. Each bridge is the identity on the bag; send is `bag::append`, drop and deliver are `bag::remove`,
-- word by word, words past the rows in use too
pub record AsOnWords (ws : List ℕ) (list : List Relay) (count : ℕ) : Type 0 where
  pub loads : bag_of count list ≡ bag_codec.dec ws
  pub stores : (after : List ℕ) → Stores list count ws after → bag_codec.dec after ≡ bag_of count list
  pub sends : (relay : Relay) (code : ℕ) (left : List Relay) (after : List ℕ) → count < max_relays → count < length list
      → Sends count relay list code left → Stores left (suc count) ws after
      → (code ≡ 0) × (after ≡ change bag_codec (λ bag. bag ++ relay_of relay ∷ []) ws)
  pub drops : (index code : ℕ) (left : List Relay) (after : List ℕ) → index < count
      → Drops count index list code left → Stores left (count - 1) ws after
      → (code ≡ 0) × (after ≡ change bag_codec (λ bag. remove_at bag index) ws)
  pub delivers : (index code : ℕ) (relay : Held) (left : List Relay) (after : List ℕ) → index < count
      → Delivers count index list code relay left → Stores left (count - 1) ws after
      → (code ≡ 0) × (relay ≡ relay_in_words ws index) × (after ≡ change bag_codec (λ bag. remove_at bag index) ws)
