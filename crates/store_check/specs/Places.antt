-- The test of a place in words, and what its check requires.
use Rattle.std.specs.Prelude.{◌≡◌, List, Bool, not, ℕ, ◌*◌, ◌<◌, leb, eqb, length, get_or}
use Rattle.lists.specs.Tests.{◌and◌, all_below}
use Rattle.lists.specs.Runs.{run}
use Rattle.rules.specs.declared.settings.Settings.{Settings}
use Rattle.rules.specs.Limits.{buckets}
use Rattle.rules.specs.Entries.{Entry}
use Rattle.rules.specs.Sound.{sound_status, sound_buffer, sound_place}
use Rattle.rules.specs.Limits.{Limits}
use Rattle.layout.specs.Contents.{Status}
use Rattle.layout.specs.Layout.{status_codec, buffer_codec, all_copies_codec, status_words, log_words, place_words, store_words, place_at, place_part}
use Rattle.layout.specs.Layout.{up_at, member_at, began_at, buffer_at, all_copies_at, log_at}
use Rattle.row_checks.specs.Rows.{ids}
use Rattle.part_checks.specs.Copies.{copies_sound}
use Rattle.row_checks.specs.Chunks.{log_sound}

-- the status of the brick at a place
abbrev pub status_at : List ℕ → Status
status_at w = status_codec.dec (run up_at status_words w)

-- the rules' test of what is decoded, and flags are 0 or 1
unfoldable pub status_sound : List ℕ → Bool
status_sound w =
    let k = status_at w in
    sound_status k.up k.member k.next k.ceiling and leb (get_or w up_at 0) 1 and leb (get_or w member_at 0) 1 and leb (get_or w began_at 0) 1

abbrev pub waiting_at : List ℕ → List Entry
waiting_at w = buffer_codec.dec (run buffer_at buffer_codec.size w)

unfoldable pub brick_sound : Settings → (ℕ → Bool) → List ℕ → Bool
brick_sound c keys w =
    let up = (status_at w).up in
    status_sound w and sound_buffer keys up (waiting_at w)
    and all_below (buckets c) (copies_sound c keys up (run all_copies_at (all_copies_codec c).size w)) and log_sound c keys (run (log_at c) (log_words c) w)

pub record PlaceFit (c : Settings) (bounds : List ℕ) (bytes : ℕ) : Type 0 where
  pub known : length bounds ≡ ids
  pub none : get_or bounds 0 0 ≡ 0
  pub small : Limits c
  pub size : bytes ≡ 8 * place_words c

-- the id at a place, in the words of a store
abbrev pub id_at : Settings → List ℕ → ℕ → ℕ
id_at c ws p = get_or ws (place_at c p) 0

-- and it is not this one
abbrev pub alone_at : Settings → List ℕ → ℕ → ℕ → Bool
alone_at c ws id q = not (eqb (id_at c ws q) id)

-- place p, in the words of a store
abbrev pub place_sound : Settings → (ℕ → Bool) → ℕ → List ℕ → ℕ → Bool
place_sound c keys given ws p = sound_place given (id_at c ws) (λ q. brick_sound c keys (place_part c q ws)) p

pub record OnePlaceFit (c : Settings) (bytes p : ℕ) : Type 0 where
  pub small : Limits c
  pub size : bytes ≡ 8 * store_words c
  pub inside : p < c.places

pub record PlacesFit (c : Settings) (bounds : List ℕ) (bytes : ℕ) : Type 0 where
  pub known : length bounds ≡ ids
  pub none : get_or bounds 0 0 ≡ 0
  pub small : Limits c
  pub size : bytes ≡ 8 * store_words c
