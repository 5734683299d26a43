-- The bag in words: a table whose rows are relays (view, bucket, order number, block, key), oldest first.
use Rattle.std.specs.Prelude.{List, ℕ, get_or}
use Rattle.rules.specs.State.{Relay as Held, blank_relay}
use Rattle.layout.specs.Contents.{relay_row}
use Rattle.layout.specs.Layout.{bag_codec}
use Rattle.bag.specs.declared.Relay.{Relay}

-- a relay as the rules have it
abbrev pub relay_of : Relay → Held
relay_of r = record { view = r.view.0; bucket = r.bucket; order = r.order; block = r.block.0; key = r.key.0 }

-- words in a row
abbrev pub relay_words : ℕ
relay_words = relay_row.size

abbrev pub relay_in_words : List ℕ → ℕ → Held
relay_in_words ws i = get_or (bag_codec.dec ws) i blank_relay
