-- From the parts of a store to its bytes: the version, settings read from the words after it, and the length.
use mathlib.Core.Path.{◌≡◌, sym, ◌∙◌}
use mathlib.Core.List.{List}
use mathlib.Core.Bool.{true, false}
use Prim.Native.Nat.{ℕ, ◌*◌, ◌%◌, ◌≤◌, ◌<◌}
use native.Mathlib.Omega.{arith}
use lib.ListN.{length, get_or}
use borrow.Author.Tests.{leb-true, eq-eqb, ne_eqb}
use Rattle.lists.specs.Runs.{Below}
use Rattle.lists.proofs.Tests.{by, and_l, clash, no_first, yes_first}
use Rattle.words.specs.Words.{words}
use Rattle.words.proofs.Laws.{length_words, words_below}
use Rattle.rules.specs.declared.settings.Settings.{Settings}
use Rattle.std.specs.Prelude.{Ok, Err}
use Rattle.rules.specs.declared.refusal.Refusal.{Refusal}
use Rattle.rules.specs.declared.refusal.Refusal.TheVariants.{BadSettings}
use Rattle.rules.specs.Limits.{in_limits, checked, max_id}
use Rattle.rules.specs.Sound.{sound_header, sound_key}
use Rattle.layout.specs.Layout.{layout_version, head_words, settings_of, store_words, version_at}
use Rattle.layout.specs.Store.{decode, sound_bytes}
use Rattle.layout.proofs.Parts.{settings_are}
use Rattle.layout.proofs.Clean.{clean_parts}
use Rattle.layout.proofs.Sound.{words_limits, sound_clean}
use Rattle.layout.proofs.Bytes.{bytes_sound, bytes_size}
use Rattle.store_check.specs.Store.{parts_sound}
use Rattle.store_check.proofs.StoreSound.{parts_are_sound}

pub header_given : (c : Settings) (view given started : ℕ) → sound_header c view given started ≡ true → given ≤ max_id
unfolding sound_header
header_given c view given started y = leb-true _ _ (and_l _ _ (and_l _ _ (and_l _ _ y)))

-- ---- what the constructor of settings says of the words after the version
module _ (ws : List ℕ) (n s m l : ℕ) (en : n ≡ get_or ws 1 0) (es : s ≡ get_or ws 2 0) (em : m ≡ get_or ws 3 0) (el : l ≡ get_or ws 4 0) where
  abbrev read : Settings
  read = record { places = n; size = s; entries = m; chunks = l }

  own : settings_of ws ≡ read
  own = settings_are ws ∙ rw (en, es, em, el)

  pub settings_bad : (r : Refusal) → Err r ≡ checked n s m l → in_limits (settings_of ws) ≡ false
  unfolding checked
  settings_bad r e = rw own (by (in_limits read) (λ y. let z : Err r ≡ Ok read = e ∙ rw y in let o : ◌≡◌ {A = ℕ} 0 1 = cc in absurd (omega arith)) (λ q. q))

  pub settings_own : (c : Settings) → Ok c ≡ checked n s m l → (settings_of ws ≡ c) × (in_limits (settings_of ws) ≡ true)
  unfolding checked
  settings_own c e =
      by (in_limits read)
      (λ y. let z : Ok c ≡ Ok read = e ∙ rw y in
      let q : c ≡ read = cc in (own ∙ sym q, rw own y))
      (λ q. let z : Ok c ≡ Err BadSettings = e ∙ rw q in let o : ◌≡◌ {A = ℕ} 0 1 = cc in absurd (omega arith))

-- ---- bytes that can't be a store
module _ (bs : List ℕ) where
  pub odd_bytes : (length bs % 8 ≡ 0 → ⊥) → sound_bytes bs ≡ false
  unfolding sound_bytes
  odd_bytes u = no_first _ _ (ne_eqb _ _ u)

  pub short_bytes : length bs < 8 * head_words → sound_bytes bs ≡ false
  short_bytes h = by (sound_bytes bs) (λ y. absurd (omega (arith, bytes_size bs y))) (λ q. q)

  pub version_bytes : (get_or (words bs) version_at 0 ≡ layout_version → ⊥) → sound_bytes bs ≡ false
  version_bytes u =
      by (sound_bytes bs)
      (λ y. let sd = bytes_sound bs y in
      absurd (u (clean_parts (settings_of (words bs)) (words bs) sd.size (sound_clean (words bs) sd)).version))
      (λ q. q)

  pub other_bytes : (length bs ≡ 8 * store_words (settings_of (words bs)) → ⊥) → sound_bytes bs ≡ false
  other_bytes u = by (sound_bytes bs) (λ y. absurd (u (bytes_size bs y))) (λ q. q)

  pub limit_bytes : in_limits (settings_of (words bs)) ≡ false → sound_bytes bs ≡ false
  limit_bytes n = by (sound_bytes bs) (λ y. clash n (words_limits (words bs) (bytes_sound bs y))) (λ q. q)

  -- bytes whose parts pass
  pub parts_bytes : Below 256 bs → length bs ≡ 8 * store_words (settings_of (words bs)) → get_or (words bs) version_at 0 ≡ layout_version
      → in_limits (settings_of (words bs)) ≡ true → parts_sound (settings_of (words bs)) (sound_key (decode (words bs))) (words bs) ≡ sound_bytes bs
  unfolding sound_bytes
  parts_bytes b h v y =
      parts_are_sound (words bs) (length_words bs ∙ omega arith) v y (words_below b) ∙ sym (yes_first _ _ (eq-eqb (length bs % 8) 0 (omega arith)))
