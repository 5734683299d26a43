-- A store in lent bytes: the laws of words carried to bytes.
use mathlib.Core.Path.{◌≡◌, sym, ap, subst, ◌∙◌}
use mathlib.Core.List.{List}
use mathlib.Core.Bool.{true}
use Prim.Native.Nat.{ℕ, ◌*◌, ◌%◌}
use native.Mathlib.Omega.{arith}
use lib.ListN.{length}
use borrow.Author.Tests.{eqb-true, eq-eqb}
use Rattle.lists.specs.Runs.{Below}
use Rattle.lists.proofs.Tests.{and_l, and_r, both}
use Rattle.words.specs.Words.{words, unwords}
use Rattle.words.proofs.Laws.{length_words, words_below, words_unwords, unwords_words, length_unwords}
use Rattle.rules.specs.State.{State}
use Rattle.rules.proofs.Sound.{Sound}
use Rattle.layout.specs.Layout.{settings_of, store_words}
use Rattle.layout.specs.Store.{decode, render, decode_bytes, render_bytes, store_bytes, sound_bytes}
use Rattle.layout.proofs.Sound.{SoundWords, sound_facts, facts_sound}
use Rattle.layout.proofs.Fit.{render_length, render_small, settings_kept, read_back, render_sound}

-- so many bytes are so many words
pub bytes_words : (n : ℕ) (bs : List ℕ) → length bs ≡ 8 * n → length (words bs) ≡ n
bytes_words n bs h = length_words bs ∙ omega arith

-- ---- sound bytes
module _ (bs : List ℕ) where
  pub bytes_sound : sound_bytes bs ≡ true → SoundWords (words bs)
  unfolding sound_bytes
  bytes_sound y = sound_facts (words bs) (and_r _ _ y)

  pub bytes_size : sound_bytes bs ≡ true → length bs ≡ store_bytes (settings_of (words bs))
  unfolding sound_bytes
  bytes_size y = let s = (sound_facts (words bs) (and_r _ _ y)).size in omega (arith, length_words bs, eqb-true (length bs % 8) 0 (and_l _ _ y))

  pub sound_of_words : length bs ≡ store_bytes (settings_of (words bs)) → SoundWords (words bs) → sound_bytes bs ≡ true
  unfolding sound_bytes
  sound_of_words h sd = both _ _ (eq-eqb (length bs % 8) 0 (omega arith)) (facts_sound (words bs) sd)

  -- sound bytes are what their own state renders
  pub bytes_still : Below 256 bs → sound_bytes bs ≡ true → render_bytes (decode_bytes bs) bs ≡ bs
  unfolding render_bytes decode_bytes
  bytes_still b y = ap unwords (bytes_sound y).still ∙ unwords_words bs (store_words (settings_of (words bs))) b (bytes_size y)

-- ---- a sound state rendered over bytes of the right length
module _ (s : State) (sd : Sound s) (bs : List ℕ) (b : Below 256 bs) (h : length bs ≡ store_bytes s.settings) where
  long : length (words bs) ≡ store_words s.settings
  long = bytes_words (store_words s.settings) bs h

  words_rendered : words (render_bytes s bs) ≡ render s (words bs)
  unfolding render_bytes
  words_rendered = words_unwords (render_small s sd (words bs) long (words_below b))

  pub bytes_length : length (render_bytes s bs) ≡ length bs
  unfolding render_bytes
  bytes_length = length_unwords (render s (words bs)) ∙ rw (render_length s sd (words bs) long) (sym h)

  pub bytes_back : decode_bytes (render_bytes s bs) ≡ s
  unfolding decode_bytes
  bytes_back = ap decode words_rendered ∙ read_back s sd (words bs) long

  pub bytes_again : sound_bytes (render_bytes s bs) ≡ true
  bytes_again =
      let kept : settings_of (words (render_bytes s bs)) ≡ s.settings = ap settings_of words_rendered ∙ settings_kept s sd (words bs) long in
      sound_of_words (render_bytes s bs) (rw kept (bytes_length ∙ h)) (subst SoundWords (sym words_rendered) (render_sound s sd (words bs) long))
