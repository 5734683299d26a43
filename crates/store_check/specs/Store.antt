-- The test of the parts of a store of the length that its settings have.
use Rattle.std.specs.Prelude.{◌≡◌, List, Bool, ℕ, ◌*◌, length, get_or}
use Rattle.lists.specs.Tests.{◌and◌, all_below}
use Rattle.words.specs.Words.{words}
use Rattle.rules.specs.declared.settings.Settings.{Settings}
use Rattle.rules.specs.Limits.{buckets, proxies}
use Rattle.rules.specs.Sound.{sound_header, sound_bag}
use Rattle.rules.specs.Limits.{Limits}
use Rattle.layout.specs.Layout.{bag_codec, settings_of, store_words, bag_part, view_at, given_at, started_at}
use Rattle.part_checks.specs.Agreed.{agreed_at_sound}
use Rattle.part_checks.specs.Proxies.{proxy_sound}
use Rattle.store_check.specs.Places.{place_sound}

-- what has keys: the bag, the proxies, the places
unfoldable pub contents_sound : Settings → (ℕ → Bool) → ℕ → List ℕ → Bool
contents_sound c keys given ws =
    sound_bag keys c (bag_codec.dec (bag_part c ws)) and all_below proxies (proxy_sound c keys ws) and all_below c.places (place_sound c keys given ws)

unfoldable pub parts_sound : Settings → (ℕ → Bool) → List ℕ → Bool
parts_sound c keys ws =
    let given = get_or ws given_at 0 in
    sound_header c (get_or ws view_at 0) given (get_or ws started_at 0) and all_below (buckets c) (agreed_at_sound given ws) and contents_sound c keys given ws

pub record StoreFit (c : Settings) (bytes : List ℕ) : Type 0 where
  pub small : Limits c
  pub size : length bytes ≡ 8 * store_words c
  pub own : settings_of (words bytes) ≡ c
