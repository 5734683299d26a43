-- The steps of a crash on a place's words.
use mathlib.Core.Path.{◌≡◌, refl, sym, ap, ◌∙◌}
use mathlib.Core.List.{List, []}
use Prim.Native.Nat.{ℕ, ◌<◌}
use native.Mathlib.Omega.{arith}
use lib.ListN.{length, set}
use Rattle.lists.specs.Runs.{run}
use Rattle.lists.proofs.Runs.{on_by, on_set}
use Rattle.words.specs.Words.{words}
use Rattle.rules.specs.declared.settings.Settings.{Settings}
use Rattle.rules.specs.Limits.{max_waiting}
use Rattle.codec.specs.Codec.{◌&◌}
use Rattle.codec.proofs.Focus.{part_length}
use Rattle.codec.proofs.Changes.{part_written}
use Rattle.codec.proofs.Loops.{table_cleared}
use Rattle.layout.specs.Contents.{Place, entry_row}
use Rattle.layout.specs.Layout.{buffer_codec, place_codec, place_words, buffer_at}
use Rattle.layout.proofs.Foci.{buffer_of, brick_in_place}
use Rattle.records.specs.Records.{with_status}
use Rattle.lent.specs.Places.{HoldsBrick}
use Rattle.lent.proofs.PlaceSteps.{place_wide}
use Rattle.membership.specs.Places.{fallen}

-- ---- a place after each step
abbrev pub down : Place → Place
down p = with_status (fallen p.snd.status) p

abbrev pub unbuffered : Place → Place
unbuffered p = p.fst & record { present = p.snd.present; status = fallen p.snd.status; buffer = []; copies = p.snd.copies; log = p.snd.log }

-- the buffer's count becomes 0
module _ (c : Settings) (s : List ℕ) (k : HoldsBrick c (words s) (length s)) where
  abbrev old : Place
  old = (place_codec c).dec (words s)

  filled : ◌≡◌ {A = ℕ} old.fst old.fst × (0 < old.fst)
  filled = (refl, k.filled)

  pub buffer_step : (v : List ℕ) → v ≡ (place_codec c).enc (down old) (words s) → set v buffer_at 0 ≡ (place_codec c).enc (unbuffered old) (words s)
  buffer_step v e =
      let u = (place_codec c).enc (down old) (words s) in
      let long : length u ≡ place_words c = (brick_in_place c).outer.keeps (down old) (words s) (place_wide c s k) in
      let size : length (run buffer_at buffer_codec.size u) ≡ buffer_codec.size = part_length (buffer_of c) u long in
      ap (λ (x : List ℕ). set x buffer_at 0) e
      ∙ sym (on_by buffer_at buffer_codec.size (buffer_codec.enc []) (λ x. set x 0 0) u
      (table_cleared entry_row max_waiting (run buffer_at buffer_codec.size u) (omega arith))
      ∙ on_set buffer_at buffer_codec.size 0 0 u (omega (arith, long)) (omega arith))
      ∙ part_written (buffer_of c) (words s) (place_wide c s k) k.clean (filled, (refl, refl)) (down old) (unbuffered old) (filled, (refl, refl)) refl
      (buffer_codec.enc []) refl
