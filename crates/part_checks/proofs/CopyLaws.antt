-- Bucket copies: the two tables of a bucket, and the buckets of a place.
use mathlib.Core.Path.{◌≡◌, refl, sym, ap, ◌∙◌}
use mathlib.Core.List.{List}
use mathlib.Core.Bool.{Bool, true, false}
use Prim.Native.Nat.{ℕ, ◌+◌, ◌*◌, ◌-◌, ◌^◌, ◌≤◌, ◌<◌}
use native.Mathlib.Omega.{arith}
use lib.ListN.{length, take, drop, length-drop}
use Rattle.lists.specs.Tests.{◌and◌, ◌or◌}
use Rattle.lists.proofs.Tests.{both, no_first, no_second, yes_second, or_l, or_r, or_no}
use Rattle.lists.specs.Runs.{run, nth_run}
use Rattle.lists.proofs.Runs.{run_all}
use Rattle.words.specs.Words.{words}
use Rattle.words.proofs.Laws.{length_words}
use Rattle.rules.specs.declared.settings.Settings.{Settings}
use Rattle.rules.specs.Limits.{buckets}
use Rattle.rules.specs.Entries.{Entry}
use Rattle.rules.specs.Sound.{sound_table, in_bucket, same_entries, sound_copies}
use Rattle.rules.proofs.SoundTest.{same_entries_test}
use Rattle.layout.specs.Layout.{copy_codec, copies_codec, copies_words}
use Rattle.rules.specs.Limits.{Limits}
use Rattle.layout.proofs.Bounds.{place_small}
use Rattle.layout.proofs.Lent.{lent}
use Rattle.part_checks.specs.Copies.{copies_sound}

-- ---- the copy on disk, beside one in memory: of a down brick they are the same
unfoldable pub disk_good : Settings → (ℕ → Bool) → ℕ → Bool → List Entry → List Entry → Bool
disk_good c good g up memory disk = sound_table good (in_bucket c g) c.entries disk and (up or same_entries memory disk)

module _ (c : Settings) (good : ℕ → Bool) (g : ℕ) (up : Bool) (memory disk : List Entry) where
  pub disk_bad : sound_table good (in_bucket c g) c.entries disk ≡ false → disk_good c good g up memory disk ≡ false
  unfolding disk_good
  disk_bad n = no_first _ _ n

  -- the same entries, so the same test
  pub disk_same : sound_table good (in_bucket c g) c.entries memory ≡ true → same_entries memory disk ≡ true → disk_good c good g up memory disk ≡ true
  unfolding disk_good
  disk_same y e = both _ _ (ap (sound_table good (in_bucket c g) c.entries) (sym ((same_entries_test memory disk).0 e)) ∙ y) (or_r _ _ e)

  pub disk_other : same_entries memory disk ≡ false → up ≡ false → disk_good c good g up memory disk ≡ false
  unfolding disk_good
  disk_other n d = no_second _ _ (or_no _ _ d ∙ n)

  pub disk_alone : up ≡ true → disk_good c good g up memory disk ≡ sound_table good (in_bucket c g) c.entries disk
  unfolding disk_good
  disk_alone u = yes_second _ _ (or_l _ _ u)

-- ---- the copies of all buckets, by numbers that the code reads
pub record AllCopies (c : Settings) (n size : ℕ) : Type 0 where
  pub same : n * size ≡ buckets c * copies_words c
  pub small : n * size < 2 ^ 27

pub all_copies : (c : Settings) (n size : ℕ) → Limits c → n ≡ buckets c → size ≡ copies_words c → AllCopies c n size
all_copies c n size l en es =
    let same : n * size ≡ buckets c * copies_words c = rw (en, es) in
    record { same = same; small = omega (arith, same, place_small c l) }

pub copies_of_bucket : (c : Settings) (n size g o : ℕ) (s : List ℕ) → AllCopies c n size → size ≡ copies_words c → length s ≡ 8 * (buckets c * copies_words c)
    → o ≡ g * size → o + size ≤ n * size → words (take (8 * o + 8 * size - 8 * o) (drop (8 * o) s)) ≡ nth_run (copies_words c) g (words s)
copies_of_bucket c n size g o s a es h eo ho =
    lent s (8 * o) (8 * o + 8 * size) (g * size) size (omega (arith, eo)) refl (omega (arith, eo, ho, a.same, h)) ∙ rw es

in_turn : (a b d : Bool) → ((a and b) and d) ≡ (a and (b and d))
unfolding ◌and◌
in_turn true b d = refl
in_turn false b d = refl

module _ (c : Settings) (good : ℕ → Bool) (up : Bool) where
  abbrev half : ℕ
  half = (copy_codec c).size

  -- the test of the two tables, from their words
  pub copies_are : (g : ℕ) (ws memory disk : List ℕ) → length ws ≡ copies_words c → memory ≡ run 0 half ws → disk ≡ run half half ws
      → sound_copies good c up g ((copies_codec c).dec ws).memory ((copies_codec c).dec ws).disk
      ≡ (sound_table good (in_bucket c g) c.entries ((copy_codec c).dec memory) and disk_good c good g up ((copy_codec c).dec memory) ((copy_codec c).dec disk))
  unfolding sound_copies disk_good
  copies_are g ws memory disk h em ed =
      let l : length (drop half ws) ≡ half = length-drop half ws ∙ omega arith in
      rw (em, ed, run_all half (drop half ws) l) (in_turn _ _ _)

  -- from the parts of a slice that are lent, of h bytes each
  pub copies_lent : (g h : ℕ) (s : List ℕ) → length s ≡ 8 * copies_words c → h ≡ 8 * half
      → sound_copies good c up g ((copies_codec c).dec (words s)).memory ((copies_codec c).dec (words s)).disk
      ≡ (sound_table good (in_bucket c g) c.entries ((copy_codec c).dec (words (take (h - 0) (drop 0 s))))
      and disk_good c good g up ((copy_codec c).dec (words (take (h - 0) (drop 0 s)))) ((copy_codec c).dec (words (take (h + h - h) (drop h s)))))
  copies_lent g h s l e =
      copies_are g (words s) _ _ (length_words s ∙ omega arith) (lent s 0 h 0 half refl (omega arith) (omega arith))
      (lent s h (h + h) half half (omega arith) (omega arith) (omega arith))

  -- a bucket's copies, in the words of all
  pub copies_part : (ws v : List ℕ) (g : ℕ) → v ≡ nth_run (copies_words c) g ws
      → copies_sound c good up ws g ≡ sound_copies good c up g ((copies_codec c).dec v).memory ((copies_codec c).dec v).disk
  unfolding copies_sound
  copies_part ws v g e = rw e
