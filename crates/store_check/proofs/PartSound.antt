-- Header, buckets, proxies and bag: the tests of their words, and the rules' of what is decoded.
use mathlib.Core.Path.{◌≡◌, sym, ap, ◌∙◌}
use mathlib.Core.List.{List}
use mathlib.Core.Bool.{Bool, true}
use Prim.Native.Nat.{ℕ, ◌<◌}
use lib.ListN.{length, get_or}
use borrow.Author.Tests.{leb-true, le-leb}
use Rattle.lists.proofs.Tests.{and_l, and_r, both}
use Rattle.rules.specs.declared.settings.Settings.{Settings}
use Rattle.rules.specs.Limits.{buckets, proxies}
use Rattle.rules.specs.State.{State}
use Rattle.rules.specs.Sound.{sound_header, sound_key, sound_bucket, sound_bag, sound_proxy}
use Rattle.layout.specs.Contents.{Agreed, Proxy}
use Rattle.layout.specs.Layout.{agreed_codec, bag_codec, settings_of, store_words, agreed_part, bag_part, view_at, given_at, started_at}
use Rattle.layout.specs.Store.{agreed_in, decode}
use Rattle.layout.proofs.Clean.{AgreedClean}
use Rattle.layout.proofs.Decoded.{settings_read}
use Rattle.layout.proofs.Parts.{view_read, given_read, started_read, agreed_read, proxy_read, bag_read}
use Rattle.part_checks.specs.Agreed.{agreed_sound, agreed_at_sound}
use Rattle.part_checks.specs.Proxies.{proxy_sound}

module _ (ws : List ℕ) (h : length ws ≡ store_words (settings_of ws)) where
  abbrev s : State
  s = decode ws

  -- ---- the header
  pub header_same : sound_header (settings_of ws) (get_or ws view_at 0) (get_or ws given_at 0) (get_or ws started_at 0)
      ≡ sound_header s.settings s.view s.given s.started
  header_same = rw (view_read ws h, given_read ws h, started_read ws h, settings_read ws)

  -- ---- a bucket's record
  abbrev test : ℕ → Agreed → Bool
  test given k = sound_bucket given k.primary k.backup k.last_primary k.last_backup k.last_sent k.taken

  module _ (g : ℕ) (l : g < buckets (settings_of ws)) where
    record_same : test (get_or ws given_at 0) (agreed_codec.dec (agreed_part g ws)) ≡ test s.given (agreed_in (s.bucket g))
    record_same = ap (test (get_or ws given_at 0)) (sym (agreed_read ws h g l)) ∙ ap (λ (n : ℕ). test n (agreed_in (s.bucket g))) (sym (given_read ws h))

    pub record_there : agreed_at_sound (get_or ws given_at 0) ws g ≡ true → AgreedClean (agreed_part g ws) × (test s.given (agreed_in (s.bucket g)) ≡ true)
    unfolding agreed_at_sound agreed_sound
    record_there y = (
      record { ready = leb-true _ _ (and_r _ _ (and_l _ _ y)); fetched = leb-true _ _ (and_r _ _ y) },
      sym record_same ∙ and_l _ _ (and_l _ _ y),
    )

    pub record_back : AgreedClean (agreed_part g ws) → test s.given (agreed_in (s.bucket g)) ≡ true → agreed_at_sound (get_or ws given_at 0) ws g ≡ true
    unfolding agreed_at_sound agreed_sound
    record_back k y = both _ _ (both _ _ (record_same ∙ y) (le-leb _ _ k.ready)) (le-leb _ _ k.fetched)

  -- ---- a proxy
  pub proxy_same : (p : ℕ) → p < proxies → proxy_sound (settings_of ws) (sound_key s) ws p ≡ sound_proxy (sound_key s) p (s.known p) (s.items p)
  unfolding proxy_sound
  proxy_same p l = ap (λ (x : Proxy). sound_proxy (sound_key s) p x.known x.items) (sym (proxy_read ws h p l))

  -- ---- the bag
  pub bag_same : sound_bag (sound_key s) (settings_of ws) (bag_codec.dec (bag_part (settings_of ws) ws)) ≡ sound_bag (sound_key s) s.settings s.bag
  bag_same =
      ap (sound_bag (sound_key s) (settings_of ws)) (sym (bag_read ws h))
      ∙ ap (λ (n : Settings). sound_bag (sound_key s) n s.bag) (sym (settings_read ws))
