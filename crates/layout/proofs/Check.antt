-- What a check of words has to find out, part by part: exactly then they are sound.
use mathlib.Core.Path.{◌≡◌, refl}
use mathlib.Core.List.{List, Memᴰ}
use mathlib.Core.Bool.{Bool, true}
use Prim.Native.Nat.{ℕ, ◌*◌, ◌/◌, ◌≤◌}
use native.Mathlib.Omega.{arith}
use lib.ListN.{length, get_or}
use borrow.Author.Tests.{leb-true, le-leb}
use Rattle.lists.specs.Tests.{every}
use Rattle.lists.specs.Runs.{Below}
use Rattle.lists.proofs.Tests.{and_l, and_r, both, every_in, every_of}
use Rattle.rules.specs.declared.settings.Settings.{Settings}
use Rattle.rules.specs.Numbers.{is_data}
use Rattle.rules.specs.Chunks.{Chunk}
use Rattle.rules.specs.Sound.{sound_chunk, sound_log, sound}
use Rattle.rules.specs.Limits.{Limits}
use Rattle.chunk_log.specs.Log.{good_log}
use Rattle.chunk_log.proofs.Check.{is_log}
use Rattle.chunk_log.proofs.Codec.{dec_length, log_clean, good_of_clean, dec_apart, dec_data}
use Rattle.codec.specs.Codec.{Clean, word_limit}
use Rattle.layout.specs.Layout.{log_codec, settings_of, log_words, store_words}
use Rattle.layout.specs.Store.{decode, sound_words}
use Rattle.layout.proofs.Decoded.{settings_read}
use Rattle.layout.proofs.Sound.{sound_facts, facts_sound, sound_apart, sound_clean, clean_still}
use Rattle.layout.proofs.Clean.{CleanParts, clean_parts, parts_clean}

-- ---- a log: its linear test, and a test of each key
module _ (keys : ℕ → Bool) (c : Settings) (l : Limits c) (w : List ℕ) (h : length w ≡ log_words c) where
  abbrev chunks : List Chunk
  chunks = (log_codec c).dec w

  abbrev width : ℕ
  width = c.size / 8

  abbrev keys_pass : Bool
  keys_pass = every (λ x. keys x.key) chunks

  pub log_sound : good_log c.chunks w ≡ true → keys_pass ≡ true → sound_log keys c chunks ≡ true
  unfolding sound_log sound_chunk
  log_sound g k =
      let most : ℕ = c.chunks in
      let whole : 8 * (c.size / 8) ≡ c.size = omega (arith, l.size_words) in
      let o = is_log most width w (8 * log_words c) refl g in
      let few : length chunks ≤ most = rw (dec_length most width w h) o.few in
      let each : (x : Chunk) → Memᴰ x chunks → is_data c.size x.bytes ≡ true = λ x m. rw whole at (dec_data most width w h o.few x m) in
      both _ _ (both _ _ (dec_apart most width w h o.few o.order) (le-leb (length chunks) most few))
      (every_of (sound_chunk keys c.size) chunks (λ x m. both _ _ (every_in (λ x. keys x.key) chunks k x m) (each x m)))

  pub log_keys : sound_log keys c chunks ≡ true → keys_pass ≡ true
  unfolding sound_log sound_chunk
  log_keys y = every_of (λ x. keys x.key) chunks (λ x m. and_l _ _ (every_in (sound_chunk keys c.size) chunks (and_r _ _ y) x m))

  pub log_cleaned : Below word_limit w → good_log c.chunks w ≡ true → Clean (log_codec c) w
  log_cleaned b g = log_clean c.chunks width w h (8 * log_words c) (is_log c.chunks width w (8 * log_words c) refl g) b

  pub log_good : Clean (log_codec c) w → sound_log keys c chunks ≡ true → good_log c.chunks w ≡ true
  unfolding sound_log
  log_good k y =
      let most : ℕ = c.chunks in
      let few : get_or w 0 0 ≤ most = rw (dec_length most width w h) at (leb-true (length chunks) most (and_r _ _ (and_l _ _ y))) in
      good_of_clean most width w h few k (and_l _ _ (and_l _ _ y))

-- ---- the store: the length that of the settings, flags and logs clean, the state sound
pub record Checked (ws : List ℕ) : Type 0 where
  pub size : length ws ≡ store_words (settings_of ws)
  pub parts : CleanParts (settings_of ws) ws
  pub state : sound (decode ws) ≡ true

pub checked_sound : (ws : List ℕ) → Checked ws → sound_words ws ≡ true
checked_sound ws k =
    let apart = rw (settings_read ws) at (sound_apart (decode ws) k.state) in
    facts_sound ws (record {
      size = k.size;
      still = clean_still ws apart (parts_clean (settings_of ws) ws k.size k.parts);
      state = k.state;
    })

pub sound_checked : (ws : List ℕ) → sound_words ws ≡ true → Checked ws
sound_checked ws y =
    let sd = sound_facts ws y in
    record { size = sd.size; parts = clean_parts (settings_of ws) ws sd.size (sound_clean ws sd); state = sd.state }
