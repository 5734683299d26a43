-- What the writes at a place leave where its brick drops its copies of a bucket.
use mathlib.Core.Path.{◌≡◌, refl, sym, ap, ◌∙◌}
use mathlib.Core.List.{List, []}
use mathlib.Core.Bool.{Bool, true, false, cond}
use Prim.Native.Nat.{ℕ, ◌+◌, ◌<◌}
use lib.ListN.{length, get_or}
use borrow.Author.Tests.{eq-eqb, ne_eqb}
use Rattle.lists.specs.Tests.{◌and◌}
use Rattle.lists.specs.Columns.{upd}
use Rattle.lists.specs.Runs.{run, on_run}
use Rattle.lists.proofs.Tests.{no_first, no_second}
use Rattle.lists.proofs.Columns.{upd_same, upd_other}
use Rattle.rules.specs.declared.settings.Settings.{Settings}
use Rattle.rules.specs.Limits.{buckets}
use Rattle.codec.specs.Codec.{Clean, change, ◌&◌}
use Rattle.codec.proofs.Changes.{part_written}
use Rattle.layout.specs.Contents.{Copies, Place, blank_copies}
use Rattle.layout.specs.Layout.{copy_codec, place_codec, place_words, copy_words, copies_at}
use Rattle.lent.proofs.Parts.{memory_of, disk_of}
use Rattle.recovery.specs.Ready.{outside, emptied, dropped_copies}

-- ---- the test
module _ (primary backup : ℕ) (up : Bool) (id : ℕ) where
  pub outside_down : up ≡ false → outside primary backup up id ≡ false
  unfolding outside
  outside_down n = no_first _ _ (no_first _ _ n)

  pub outside_primary : id ≡ primary → outside primary backup up id ≡ false
  unfolding outside
  outside_primary e = no_first _ _ (no_second _ _ (rw (eq-eqb id primary e)))

  pub outside_backup : id ≡ backup → outside primary backup up id ≡ false
  unfolding outside
  outside_backup e = no_second _ _ (rw (eq-eqb id backup e))

  pub outside_up : up ≡ true → (id ≡ primary → ⊥) → (id ≡ backup → ⊥) → outside primary backup up id ≡ true
  unfolding outside ◌and◌
  outside_up y n m = rw (y, ne_eqb id primary n, ne_eqb id backup m)

-- ---- the writes
module _ (c : Settings) (g : ℕ) (hg : g < buckets c) (w : List ℕ) (k : Clean (place_codec c) w) where
  abbrev place : Place
  place = (place_codec c).dec w

  abbrev with_copies : Copies → Place
  with_copies new = place.fst & record {
    present = place.snd.present;
    status = place.snd.status;
    buffer = place.snd.buffer;
    copies = upd place.snd.copies g new;
    log = place.snd.log;
  }

  abbrev half : Copies
  half = record { memory = []; disk = (place.snd.copies g).disk }

  module _ (h : length w ≡ place_words c) (z : 0 < place.fst) where
    pub emptied_steps : (w1 w2 : List ℕ) → w1 ≡ on_run (copies_at c g) (copy_words c) ((copy_codec c).enc []) w
        → w2 ≡ on_run (copies_at c g + copy_words c) (copy_words c) ((copy_codec c).enc []) w1 → w2 ≡ change (place_codec c) (emptied g) w
    emptied_steps w1 w2 e1 e2 =
        let old = place.snd.copies in
        let first = part_written (memory_of c g hg) w h k (((refl, z), (((refl, refl), refl), λ j m n. refl)), refl) place (with_copies half)
        (((refl, z), (((refl, refl), refl), λ j m n. sym (upd_other old g j half n))), sym (ap (λ (x : Copies). x.disk) (upd_same old g half))) refl
        ((copy_codec c).enc []) (ap (λ (x : Copies). (copy_codec c).enc x.memory (run (copies_at c g) (copy_words c) w)) (sym (upd_same old g half))) in
        let second = part_written (disk_of c g hg) w h k (((refl, z), (((refl, refl), refl), λ j m n. refl)), refl) (with_copies half)
        (with_copies blank_copies) (
          ((refl, z), (((refl, refl), refl), λ j m n. upd_other old g j half n ∙ sym (upd_other old g j blank_copies n))),
          ap (λ (x : Copies). x.memory) (upd_same old g half) ∙ sym (ap (λ (x : Copies). x.memory) (upd_same old g blank_copies)),
        )
        (ap (λ (x : Copies). x.disk) (upd_same old g half)) ((copy_codec c).enc [])
        (ap (λ (x : Copies). (copy_codec c).enc x.disk (run (copies_at c g + copy_words c) (copy_words c) w)) (sym (upd_same old g blank_copies))) in
        e2 ∙ ap (on_run (copies_at c g + copy_words c) (copy_words c) ((copy_codec c).enc []))
        (e1 ∙ ap (on_run (copies_at c g) (copy_words c) ((copy_codec c).enc [])) (sym k) ∙ first) ∙ second

  -- ---- a place that stays, and one that drops its copies
  module _ (primary backup : ℕ) where
    pub place_stays : outside primary backup place.snd.status.up place.fst ≡ false → w ≡ change (place_codec c) (dropped_copies g primary backup) w
    place_stays n = sym (ap (λ (b : Bool). (place_codec c).enc (cond b (emptied g place) place) w) n ∙ k)

    pub place_drops : outside primary backup place.snd.status.up place.fst ≡ true → (w1 : List ℕ) → w1 ≡ change (place_codec c) (emptied g) w
        → w1 ≡ change (place_codec c) (dropped_copies g primary backup) w
    place_drops y w1 e = e ∙ sym (ap (λ (b : Bool). (place_codec c).enc (cond b (emptied g place) place) w) y)

    -- an empty place has no brick that is up
    pub empty_stays : place.fst ≡ 0 → w ≡ change (place_codec c) (dropped_copies g primary backup) w
    empty_stays z = place_stays (outside_down primary backup place.snd.status.up place.fst (rw (eq-eqb (get_or w 0 0) 0 z)))
