-- The test of a bucket's record in words, and what its check requires.
use Rattle.std.specs.Prelude.{◌≡◌, List, Bool, ℕ, ◌*◌, leb, get_or}
use Rattle.lists.specs.Tests.{◌and◌}
use Rattle.rules.specs.declared.settings.Settings.{Settings}
use Rattle.rules.specs.Sound.{sound_bucket}
use Rattle.rules.specs.Limits.{Limits}
use Rattle.layout.specs.Layout.{agreed_codec, agreed_words, store_words, agreed_part, ready_at, fetched_at}

-- the rules' test of what is decoded, and flags are 0 or 1
unfoldable pub agreed_sound : ℕ → List ℕ → Bool
agreed_sound given w =
    let k = agreed_codec.dec w in
    sound_bucket given k.primary k.backup k.last_primary k.last_backup k.last_sent k.taken
    and leb (get_or w ready_at 0) 1 and leb (get_or w fetched_at 0) 1

-- of bucket g, in the words of a store
unfoldable pub agreed_at_sound : ℕ → List ℕ → ℕ → Bool
agreed_at_sound given ws g = agreed_sound given (agreed_part g ws)

abbrev pub AgreedFit : ℕ → Type 0
AgreedFit bytes = bytes ≡ 8 * agreed_words

pub record AllAgreedFit (c : Settings) (bytes : ℕ) : Type 0 where
  pub small : Limits c
  pub size : bytes ≡ 8 * store_words c
