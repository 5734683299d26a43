-- The bag in words, and what its check requires.
use Rattle.std.specs.Prelude.{◌≡◌, List, ℕ, ◌+◌, ◌*◌, ◌<◌, get_or}
use Rattle.rules.specs.Limits.{max_relays}
use Rattle.rules.specs.State.{Relay}
use Rattle.layout.specs.Contents.{relay}
use Rattle.layout.specs.Layout.{bag_words}
use Rattle.row_checks.specs.Rows.{ids}

-- relay i, in the words of the bag
abbrev pub relay_in_words : List ℕ → ℕ → Relay
relay_in_words ws i =
    let at = 1 + 5 * i in relay (get_or ws at 0) (get_or ws (at + 1) 0) (get_or ws (at + 2) 0) (get_or ws (at + 3) 0) (get_or ws (at + 4) 0)

pub record RelayFit (bounds bytes i : ℕ) : Type 0 where
  pub known : bounds ≡ ids
  pub inside : i < max_relays
  pub size : bytes ≡ 8 * bag_words

pub record BagFit (bounds bytes : ℕ) : Type 0 where
  pub known : bounds ≡ ids
  pub size : bytes ≡ 8 * bag_words
