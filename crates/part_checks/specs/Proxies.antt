-- The test of a proxy in words, and what its check requires.
use Rattle.std.specs.Prelude.{◌≡◌, List, Bool, ℕ, ◌*◌}
use Rattle.rules.specs.declared.settings.Settings.{Settings}
use Rattle.rules.specs.Sound.{sound_proxy}
use Rattle.rules.specs.Limits.{Limits}
use Rattle.layout.specs.Layout.{proxy_codec, proxy_words, store_words, proxy_part}
use Rattle.row_checks.specs.Rows.{ids}

-- proxy p, in the words of a store
unfoldable pub proxy_sound : Settings → (ℕ → Bool) → List ℕ → ℕ → Bool
proxy_sound c keys ws p = let x = proxy_codec.dec (proxy_part c p ws) in sound_proxy keys p x.known x.items

pub record ProxyFit (bounds bytes : ℕ) : Type 0 where
  pub known : bounds ≡ ids
  pub size : bytes ≡ 8 * proxy_words

pub record ProxiesFit (c : Settings) (bounds bytes : ℕ) : Type 0 where
  pub known : bounds ≡ ids
  pub small : Limits c
  pub size : bytes ≡ 8 * store_words c
