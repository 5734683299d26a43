-- Sound words, as facts.
use mathlib.Core.Path.{◌≡◌, sym, ap, ◌∙◌}
use mathlib.Core.List.{List}
use mathlib.Core.Bool.{Bool, true}
use mathlib.Core.Logic.{inl, inr}
use Prim.Native.Nat.{ℕ, ◌<◌}
use native.Mathlib.Omega.{arith}
use lib.ListN.{length}
use borrow.Author.Tests.{eqb-true, eq-eqb}
use Rattle.lists.specs.Tests.{all_below}
use Rattle.lists.proofs.Tests.{by_lt, and_l, and_r, both, or_cases, all_at, is_no, same_numbers_eq, same_numbers_self}
use Rattle.rules.specs.declared.settings.Settings.{Settings}
use Rattle.rules.specs.Limits.{in_limits}
use Rattle.rules.specs.State.{State}
use Rattle.rules.specs.Sound.{alone, sound_brick, sound_place, sound}
use Rattle.codec.specs.Codec.{Clean}
use Rattle.layout.specs.Places.{Apart}
use Rattle.layout.specs.Layout.{store_codec, settings_of, store_words}
use Rattle.layout.specs.Store.{contents_of, decode, render, sound_words}
use Rattle.layout.proofs.Decoded.{settings_read, as_decoded}

-- ---- sound words
pub record SoundWords (ws : List ℕ) : Type 0 where
  pub size : length ws ≡ store_words (settings_of ws)
  pub still : render (decode ws) ws ≡ ws
  pub state : sound (decode ws) ≡ true

pub sound_facts : (ws : List ℕ) → sound_words ws ≡ true → SoundWords ws
unfolding sound_words
sound_facts ws y = record {
  size = eqb-true _ _ (and_l _ _ (and_l _ _ y));
  still = same_numbers_eq _ _ (and_r _ _ (and_l _ _ y));
  state = and_r _ _ y;
}

pub facts_sound : (ws : List ℕ) → SoundWords ws → sound_words ws ≡ true
unfolding sound_words
facts_sound ws f = both _ _ (both _ _ (eq-eqb _ _ f.size) (rw f.still (same_numbers_self ws))) f.state

-- ---- no id at two places
ids_apart : (given n : ℕ) (ids : ℕ → ℕ) (brick : ℕ → Bool) → all_below n (sound_place given ids brick) ≡ true → (p q : ℕ) → q < n → p < q
    → ids p ≡ ids q → 0 < ids q → ⊥
unfolding sound_place alone
ids_apart given n ids brick y p q h l e o = elim (or_cases _ _ (all_at _ _ y q h)) [
  | inl z ↦ omega (arith, eqb-true (ids q) 0 z)
  | inr z ↦ is_no _ (all_at q _ (and_r _ _ (and_l _ _ z)) p l) (eq-eqb _ _ e)
]

pub places_apart : (given n : ℕ) (ids : ℕ → ℕ) (brick : ℕ → Bool) → all_below n (sound_place given ids brick) ≡ true → Apart n ids
places_apart given n ids brick y p q hp hq e o =
    by_lt p q (λ _ l. absurd (ids_apart given n ids brick y p q hq l e (omega arith)))
    (λ _ l. by_lt q p (λ _ m. absurd (ids_apart given n ids brick y q p hp m (sym e) o)) (λ _ m. omega arith))

pub sound_apart : (s : State) → sound s ≡ true → Apart s.settings.places s.ids
unfolding sound
sound_apart s y =
    places_apart s.given s.settings.places s.ids (λ p. sound_brick s (s.ids p)) (and_r _ _ (and_l _ _ (and_l _ _ (and_l _ _ y))))

-- settings in limits
pub sound_limits : (s : State) → sound s ≡ true → in_limits s.settings ≡ true
unfolding sound
sound_limits s y = and_l _ _ (and_l _ _ (and_l _ _ (and_l _ _ (and_l _ _ y))))

module _ (ws : List ℕ) (sd : SoundWords ws) where
  pub words_limits : in_limits (settings_of ws) ≡ true
  words_limits = rw (settings_read ws) at (sound_limits (decode ws) sd.state)

  pub words_apart : Apart (settings_of ws).places (decode ws).ids
  words_apart = rw (settings_read ws) at (sound_apart (decode ws) sd.state)

  pub by_place : contents_of (decode ws) ≡ (store_codec (settings_of ws)).dec ws
  by_place = as_decoded ws words_apart

  -- sound words are clean
  pub sound_clean : Clean (store_codec (settings_of ws)) ws
  unfolding render
  sound_clean =
      ap (λ d. (store_codec (settings_of ws)).enc d ws) (sym by_place)
      ∙ ap (λ (c : Settings). (store_codec c).enc (contents_of (decode ws)) ws) (sym (settings_read ws)) ∙ sd.still

-- where no id stands at two places, clean words are what their own state renders
pub clean_still : (ws : List ℕ) → Apart (settings_of ws).places (decode ws).ids → Clean (store_codec (settings_of ws)) ws → render (decode ws) ws ≡ ws
unfolding render
clean_still ws apart clean =
    ap (λ (c : Settings). (store_codec c).enc (contents_of (decode ws)) ws) (settings_read ws)
    ∙ ap (λ d. (store_codec (settings_of ws)).enc d ws) (as_decoded ws apart) ∙ clean
