-- A bucket's copies at a brick, in memory and on disk, made the same; and one bucket's part of all.
use mathlib.Core.Path.{◌≡◌, refl, sym, ap, ◌∙◌}
use mathlib.Core.List.{List}
use mathlib.Core.Bool.{true, false}
use Prim.Native.Nat.{ℕ, ◌*◌, ◌<◌}
use native.Mathlib.Nat.{add-zero}
use native.Mathlib.Omega.{arith}
use lib.ListN.{length, get_or, drop, length-drop}
use Rattle.lists.specs.Runs.{run, on_run, nth_run}
use Rattle.lists.proofs.Runs.{run_at, run_all}
use Rattle.words.specs.Words.{words}
use Rattle.rules.specs.declared.settings.Settings.{Settings}
use Rattle.rules.specs.Limits.{buckets}
use Rattle.codec.specs.Codec.{Clean, change}
use Rattle.codec.proofs.Round.{clean_via, clean_two, clean_table}
use Rattle.codec.proofs.Focus.{part_changed}
use Rattle.layout.specs.Contents.{copies_reading}
use Rattle.layout.specs.Layout.{copy_codec, copies_codec, copy_words, copies_words}
use Rattle.layout.proofs.Codecs.{entry_exact}
use Rattle.layout.proofs.Foci.{memory_in, disk_in}
use Rattle.layout.specs.Each.{part_of}
use Rattle.layout.proofs.Each.{part_length, part_words}
use Rattle.entries.specs.Entries.{copied_entries}
use Rattle.lent.specs.Parts.{CopiesFit, AllCopiesFit, matched}

-- ---- one bucket
-- whatever words two tables lie in, they are what their entries write
copies_clean : (c : Settings) (w : List ℕ) → length w ≡ copies_words c → Clean (copies_codec c) w
copies_clean c w h =
    (clean_via copies_reading (λ t. refl) (clean_two (clean_table entry_exact c.entries) (clean_table entry_exact c.entries))).clean w h (tt, tt)

pub copy_saved : (c : Settings) (w : List ℕ) → length w ≡ copies_words c
    → copied_entries c.entries 0 (copy_words c) w ≡ change (copies_codec c) (matched true) w
copy_saved c w h = sym (part_changed (disk_in c) (matched true) w h (copies_clean c w h) refl)

pub copy_restored : (c : Settings) (w : List ℕ) → length w ≡ copies_words c
    → copied_entries c.entries (copy_words c) 0 w ≡ change (copies_codec c) (matched false) w
copy_restored c w h =
    let disk : run (copy_words c) (copy_words c) w ≡ drop (copy_words c) w =
    run_all (copy_words c) (drop (copy_words c) w) (length-drop (copy_words c) w ∙ omega arith) in
    ap (λ (v : List ℕ). on_run 0 (copy_words c) ((copy_codec c).enc ((copy_codec c).dec v)) w) disk
    ∙ sym (part_changed (memory_in c) (matched false) w h (copies_clean c w h) refl)

-- ---- one of all buckets, lent alone
pub each_fits : (c : Settings) (s : List ℕ) → AllCopiesFit c (words s) (length s) → (size g : ℕ) → size ≡ copies_words c → g < buckets c
    → (part : List ℕ) → part ≡ part_of size g s → CopiesFit c (words part) (length part)
each_fits c s fit size g es l part e =
    let here : part ≡ part_of (copies_words c) g s = rw es at e in
    let long : length s ≡ 8 * (buckets c * copies_words c) = omega (arith, fit.size) in
    let same = ap words here ∙ part_words (copies_codec c) (buckets c) s s long refl s refl g l in
    let first : get_or (nth_run (copies_words c) g (words s)) 0 0 ≡ get_or (words s) (g * copies_words c) 0 =
    run_at (g * copies_words c) (copies_words c) 0 (words s) (omega arith) ∙ rw (add-zero (g * copies_words c)) in
    record {
      limits = fit.limits;
      size = ap length here ∙ part_length (copies_words c) (buckets c) g s long l;
      memory = rw (same, first) (fit.memory g l);
      disk = rw (same, run_at (g * copies_words c) (copies_words c) (copy_words c) (words s) (omega arith)) (fit.disk g l);
    }
