-- The parts of a store pass exactly where its words are sound.
use mathlib.Core.Path.{◌≡◌, sym, ap, ◌∙◌}
use mathlib.Core.List.{List}
use mathlib.Core.Bool.{Bool, true}
use Prim.Native.Nat.{ℕ, ◌<◌}
use lib.ListN.{length, get_or}
use Rattle.lists.specs.Tests.{all_below}
use Rattle.lists.specs.Runs.{Below}
use Rattle.lists.proofs.Tests.{and_l, and_r, both, same_test, all_at, all_true, all_same}
use Rattle.rules.specs.declared.settings.Settings.{Settings}
use Rattle.rules.specs.Limits.{in_limits, buckets, proxies}
use Rattle.rules.specs.State.{State}
use Rattle.rules.specs.Sound.{sound_key, sound_brick, sound_place, sound_bucket, sound_proxy, sound}
use Rattle.rules.specs.Limits.{Limits}
use Rattle.rules.proofs.Limits.{limits}
use Rattle.codec.specs.Codec.{word_limit}
use Rattle.layout.specs.Places.{Apart}
use Rattle.layout.specs.Layout.{layout_version, settings_of, store_words, place_part, version_at, given_at}
use Rattle.layout.specs.Store.{decode, sound_words}
use Rattle.layout.proofs.Clean.{PlaceClean}
use Rattle.layout.proofs.Decoded.{settings_read}
use Rattle.layout.proofs.Sound.{sound_apart}
use Rattle.layout.proofs.Check.{Checked, checked_sound, sound_checked}
use Rattle.part_checks.specs.Agreed.{agreed_at_sound}
use Rattle.part_checks.specs.Proxies.{proxy_sound}
use Rattle.store_check.specs.Places.{place_sound}
use Rattle.store_check.specs.Store.{contents_sound, parts_sound}
use Rattle.store_check.proofs.PartSound.{header_same, record_there, record_back, proxy_same, bag_same}
use Rattle.store_check.proofs.PlaceSound.{places_apart, place_there, place_back}

module _ (ws : List ℕ) (h : length ws ≡ store_words (settings_of ws)) (v : get_or ws version_at 0 ≡ layout_version) (y : in_limits (settings_of ws) ≡ true)
    (b : Below word_limit ws) where
  abbrev c : Settings
  c = settings_of ws

  abbrev s : State
  s = decode ws

  abbrev keys : ℕ → Bool
  keys = sound_key s

  abbrev given : ℕ
  given = get_or ws given_at 0

  lim : Limits c
  lim = limits c y

  -- ---- the rules' tests of the places, the buckets and the proxies
  abbrev place_test : ℕ → Bool
  place_test = sound_place s.given s.ids (λ p. sound_brick s (s.ids p))

  abbrev bucket_test : ℕ → Bool
  bucket_test g =
      let k = s.bucket g in
      sound_bucket s.given k.primary k.backup k.last_primary k.last_backup k.last_sent k.taken

  abbrev proxy_test : ℕ → Bool
  proxy_test p = sound_proxy keys p (s.known p) (s.items p)

  -- a test over the settings of what is decoded
  own : (test : Settings → Bool) → test c ≡ test s.settings
  own test = ap test (sym (settings_read ws))

  proxies_same : all_below proxies (proxy_sound c keys ws) ≡ all_below proxies proxy_test
  proxies_same = all_same proxies (proxy_sound c keys ws) proxy_test (proxy_same ws h)

  there : parts_sound c keys ws ≡ true → sound_words ws ≡ true
  unfolding parts_sound contents_sound sound
  there t =
      let records : (g : ℕ) → g < buckets c → agreed_at_sound given ws g ≡ true = all_at (buckets c) (agreed_at_sound given ws) (and_r _ _ (and_l _ _ t)) in
      let contents = and_r _ _ t in
      let places : all_below c.places (place_sound c keys given ws) ≡ true = and_r _ _ contents in
      let apart : Apart c.places s.ids = places_apart ws h places in
      let each : (p : ℕ) → p < c.places → (place_test p ≡ true) × (0 < get_or (place_part c p ws) 0 0 → PlaceClean c (place_part c p ws)) =
      λ p l. place_there ws h p l lim b apart (all_at _ _ places p l) in
      checked_sound ws (record {
        size = h;
        parts = record { version = v; agreed = λ g l. (record_there ws h g l (records g l)).0; place = λ p l. (each p l).1 };
        state = both _ _ (both _ _ (both _ _ (both _ _ (both _ _
            (sym (own in_limits) ∙ y)
            (sym (header_same ws h) ∙ and_l _ _ (and_l _ _ t)))
            (sym (own (λ n. all_below n.places place_test)) ∙ all_true c.places place_test (λ p l. (each p l).0)))
            (sym (own (λ n. all_below (buckets n) bucket_test)) ∙ all_true (buckets c) bucket_test (λ g l. (record_there ws h g l (records g l)).1)))
            (sym (bag_same ws h) ∙ and_l _ _ (and_l _ _ contents)))
            (sym proxies_same ∙ and_r _ _ (and_l _ _ contents));
      })

  back : sound_words ws ≡ true → parts_sound c keys ws ≡ true
  unfolding parts_sound contents_sound sound
  back t =
      let k : Checked ws = sound_checked ws t in
      let five = and_l _ _ k.state in
      let four = and_l _ _ five in
      let three = and_l _ _ four in
      let two = and_l _ _ three in
      let apart : Apart c.places s.ids = rw (settings_read ws) at (sound_apart s k.state) in
      let places : all_below c.places place_test ≡ true = own (λ n. all_below n.places place_test) ∙ and_r _ _ three in
      let records : all_below (buckets c) bucket_test ≡ true = own (λ n. all_below (buckets n) bucket_test) ∙ and_r _ _ four in
      both _ _ (both _ _
      (header_same ws h ∙ and_r _ _ two)
      (all_true (buckets c) (agreed_at_sound given ws) (λ g l. record_back ws h g l (k.parts.agreed g l) (all_at _ _ records g l))))
      (both _ _ (both _ _
      (bag_same ws h ∙ and_r _ _ five)
      (proxies_same ∙ and_r _ _ k.state))
      (all_true c.places (place_sound c keys given ws) (λ p l. place_back ws h p l lim b apart (k.parts.place p l) (all_at _ _ places p l))))

  pub parts_are_sound : parts_sound c keys ws ≡ sound_words ws
  parts_are_sound = same_test (parts_sound c keys ws) (sound_words ws) there back
