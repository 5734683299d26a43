-- A sound store and its settings.
use mathlib.Core.Path.{◌≡◌, refl, sym, ap, subst, ◌∙◌}
use mathlib.Core.List.{List}
use Prim.Native.Nat.{ℕ}
use native.Mathlib.Nat.{add-zero}
use native.Mathlib.Omega.{arith}
use lib.ListN.{length, get_or}
use Rattle.lists.proofs.Runs.{run_at}
use Rattle.words.specs.Words.{words}
use Rattle.rules.specs.declared.settings.Settings.{Settings}
use Rattle.rules.specs.Limits.{max_relays}
use Rattle.rules.proofs.Limits.{limits}
use Rattle.rules.proofs.Sound.{Sound}
use Rattle.rules.proofs.SoundTest.{sound_facts}
use Rattle.layout.specs.Contents.{relay_row}
use Rattle.layout.specs.Layout.{settings_of, store_words, bag_words, bag_at, bag_part}
use Rattle.layout.specs.Store.{decode, store_bytes}
use Rattle.layout.proofs.Decoded.{settings_read, decoded_placed}
use Rattle.layout.proofs.Parts.{bag_read}
use Rattle.layout.proofs.Sound.{words_limits}
use Rattle.entries.proofs.Tables.{count_is}
use Rattle.lent.specs.Stores.{SoundStore, StoreOf}

module _ (bs : List ℕ) (v : SoundStore bs) where
  own : StoreOf (settings_of (words bs)) bs
  own = record { limits = limits _ (words_limits (words bs) v.sound); size = v.size; same = refl; sound = v.sound }

  -- by whatever name its settings go
  pub store_of : (c : Settings) → c ≡ settings_of (words bs) → StoreOf c bs
  store_of c e = subst (λ (x : Settings). StoreOf x bs) (sym e) own

module _ (c : Settings) (bs : List ℕ) (v : StoreOf c bs) where
  pub sound_store : SoundStore bs
  sound_store = record { size = v.size ∙ ap store_bytes v.same; sound = v.sound }

  pub settings_are : (decode (words bs)).settings ≡ c
  settings_are = settings_read (words bs) ∙ sym v.same

  pub words_size : length (words bs) ≡ store_words (settings_of (words bs))
  words_size = v.sound.size

  pub facts : Sound (decode (words bs))
  facts = sound_facts (decode (words bs)) (decoded_placed (words bs)) v.sound.state

  -- the bag's count is its first word
  pub bag_count : (at : ℕ) → at ≡ bag_at c → length (decode (words bs)).bag ≡ get_or (words bs) at 0
  bag_count at e =
      ap length (bag_read (words bs) v.sound.size) ∙ count_is relay_row max_relays (bag_part (settings_of (words bs)) (words bs))
      ∙ run_at (bag_at (settings_of (words bs))) bag_words 0 (words bs) (omega arith)
      ∙ ap (λ (i : ℕ). get_or (words bs) i 0) (add-zero _ ∙ ap bag_at (sym v.same) ∙ sym e)
