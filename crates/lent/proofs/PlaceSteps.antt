-- Steps on the bytes s of a place, one after the other: a is its value after some of them, v are the bytes then, and bytes o to e of v are lent to the next.
use mathlib.Core.Path.{◌≡◌, refl, ap, ◌∙◌}
use mathlib.Core.List.{List, ◌++◌}
use Prim.Native.Nat.{ℕ, ◌+◌, ◌*◌, ◌-◌, ◌/◌, ◌<◌}
use native.Mathlib.Omega.{arith}
use lib.ListN.{length, take, drop}
use Rattle.lists.specs.Runs.{run, on_run}
use Rattle.lists.proofs.Runs.{fits_in, run_length, run_at}
use Rattle.words.specs.Words.{words}
use Rattle.words.proofs.Laws.{length_words, words_part, lent_run}
use Rattle.rules.specs.declared.settings.Settings.{Settings}
use Rattle.chunk_log.specs.Log.{IsLog}
use Rattle.codec.specs.Codec.{Codec, change}
use Rattle.codec.proofs.Focus.{Focus, ◌through◌}
use Rattle.codec.proofs.Changes.{part_stays, value_changed}
use Rattle.layout.specs.Contents.{Place}
use Rattle.layout.specs.Layout.{all_copies_codec, place_codec, copy_words, copies_words, log_words, place_words, all_copies_at, copies_at, log_at}
use Rattle.layout.proofs.Foci.{brick_in_place, all_copies_in, log_of}
use Rattle.lent.specs.Places.{HoldsBrick}
use Rattle.lent.specs.Parts.{AllCopiesFit}

abbrev pub all_copies_of : (c : Settings) → Focus (place_codec c) (all_copies_codec c)
all_copies_of c = brick_in_place c through all_copies_in c

module _ (c : Settings) (s : List ℕ) (k : HoldsBrick c (words s) (length s)) where
  abbrev old : Place
  old = (place_codec c).dec (words s)

  pub place_wide : length (words s) ≡ place_words c
  place_wide = length_words s ∙ omega (arith, k.size)

  module _ (a : Place) (v : List ℕ) (same : words v ≡ (place_codec c).enc a (words s)) (long : length v ≡ length s) (o e : ℕ) where
    abbrev lent : List ℕ
    lent = take (e - o) (drop o v)

    -- ---- a part that the steps have left as it was
    module _ {B : Type 0} {d : Codec B} (φ : Focus (place_codec c) d) (here : φ.Else old old) (left : φ.see a ≡ φ.see old)
        (eo : o ≡ 8 * φ.off) (ee : e ≡ o + 8 * d.size) where
      step_length : length lent ≡ 8 * d.size
      step_length = run_length o (e - o) v (omega (arith, k.size, φ.inside)) ∙ omega arith

      step_words : φ.Else a a → words lent ≡ run φ.off d.size (words s)
      step_words x =
          words_part v o (e - o) φ.off d.size eo (omega arith) (omega (arith, k.size, φ.inside)) ∙ ap (run φ.off d.size) same
          ∙ part_stays φ (words s) place_wide k.clean here a x left

      -- its value changes
      pub step_changed : (b : Place) → φ.Else a b → (f : B → B) → φ.see b ≡ f (φ.see old) → (t : List ℕ) → length t ≡ length lent
          → words t ≡ change d f (words lent)
          → words (take o v ++ (t ++ drop (e - o) (drop o v))) ≡ (place_codec c).enc b (words s)
      step_changed b x f new t l q =
          lent_run v t o (e - o) φ.off d.size (change d f) eo (omega arith) (omega (arith, k.size, φ.inside)) (l ∙ step_length) q
          ∙ ap (on_run φ.off d.size (change d f)) same ∙ value_changed φ (words s) place_wide k.clean here a b x left f new

    -- ---- the copies and the log
    module _ (z : 0 < a.fst) where
      pub copies_fit : a.snd.copies ≡ old.snd.copies → o ≡ 8 * all_copies_at → e ≡ 8 * log_at c → AllCopiesFit c (words lent) (length lent)
      copies_fit left eo ee =
          let φ = all_copies_of c in
          let there : φ.Else old old = ((refl, k.filled), ((refl, refl), refl)) in
          let end : e ≡ o + 8 * (all_copies_codec c).size = omega arith in
          let still = step_words φ there left eo end ((refl, z), ((refl, refl), refl)) in
          record {
            limits = k.limits;
            size = step_length φ there left eo end;
            memory = λ g l.
                let inside = fits_in (copies_words c) l in
                rw (still, run_at all_copies_at (all_copies_codec c).size (g * copies_words c) (words s) (omega arith)) (k.memory g l);
            disk = λ g l.
                let inside = fits_in (copies_words c) l in
                rw (still, run_at all_copies_at (all_copies_codec c).size (g * copies_words c + copy_words c) (words s) (omega arith))
                (rw (count_at g) (k.disk g l));
          }
        where
          count_at : (g : ℕ) → all_copies_at + (g * copies_words c + copy_words c) ≡ copies_at c g + copy_words c
          count_at g = omega arith

      pub log_fits : a.snd.log ≡ old.snd.log → o ≡ 8 * log_at c → e ≡ length s → IsLog c.chunks (c.size / 8) (words lent) (length lent)
      log_fits left eo ee =
          let there : (log_of c).Else old old = ((refl, k.filled), ((refl, refl), refl)) in
          let end : e ≡ o + 8 * log_words c = omega (arith, k.size) in
          rw (step_words (log_of c) there left eo end ((refl, z), ((refl, refl), refl)), step_length (log_of c) there left eo end) k.log
