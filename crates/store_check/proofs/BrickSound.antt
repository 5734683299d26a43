-- A place: the test of its words, and the rules' of the brick that is decoded.
use mathlib.Core.Path.{◌≡◌, refl, sym, ap, ◌∙◌}
use mathlib.Core.List.{List}
use mathlib.Core.Bool.{Bool, true}
use Prim.Native.Nat.{ℕ, ◌*◌, ◌<◌}
use native.Mathlib.Omega.{arith}
use lib.ListN.{length}
use borrow.Author.Tests.{leb-true, le-leb}
use Rattle.lists.specs.Tests.{all_below}
use Rattle.lists.specs.Runs.{run, Below}
use Rattle.lists.proofs.Tests.{and_l, and_r, both, all_same}
use Rattle.lists.proofs.Runs.{run_length, run_of_run, fits_in, below_take, below_drop}
use Rattle.rules.specs.declared.settings.Settings.{Settings}
use Rattle.rules.specs.Limits.{buckets}
use Rattle.rules.specs.State.{State}
use Rattle.rules.specs.Sound.{sound_key, sound_log, sound_status, sound_buffer, sound_copies, sound_brick}
use Rattle.rules.specs.Limits.{Limits}
use Rattle.codec.specs.Codec.{word_limit}
use Rattle.codec.proofs.Focus.{◌through◌}
use Rattle.layout.specs.Places.{Apart}
use Rattle.layout.specs.Contents.{Status, Copies, Brick}
use Rattle.layout.specs.Layout.{copies_codec, all_copies_codec, log_codec, settings_of, store_words, place_words, copies_words, log_words}
use Rattle.layout.specs.Layout.{place_at, place_part, all_copies_at, copies_at, log_at}
use Rattle.layout.specs.Store.{brick_in, decode}
use Rattle.layout.proofs.Foci.{brick_in_place, status_in, buffer_of, copies_of, log_of}
use Rattle.layout.proofs.Clean.{PlaceClean}
use Rattle.layout.proofs.Parts.{place_seen}
use Rattle.layout.proofs.Decoded.{settings_read}
use Rattle.layout.proofs.Check.{log_cleaned, log_good}
use Rattle.part_checks.specs.Copies.{copies_sound}
use Rattle.row_checks.specs.Chunks.{log_sound}
use Rattle.store_check.specs.Places.{status_at, status_sound, waiting_at, brick_sound}

-- ---- the brick at a place
module _ (ws : List ℕ) (h : length ws ≡ store_words (settings_of ws)) (apart : Apart (settings_of ws).places (decode ws).ids)
    (p : ℕ) (l : p < (settings_of ws).places) (z : 0 < (decode ws).ids p) where
  abbrev c : Settings
  c = settings_of ws

  abbrev w : List ℕ
  w = place_part c p ws

  abbrev s : State
  s = decode ws

  abbrev i : ℕ
  i = s.ids p

  long : length w ≡ place_words c
  long = run_length (place_at c p) (place_words c) ws (omega (arith, fits_in (place_words c) l))

  abbrev keys : ℕ → Bool
  keys = sound_key s

  abbrev brick : Brick
  brick = brick_in s i

  status_seen : brick.status ≡ status_at w
  status_seen = place_seen ws h p l apart (brick_in_place c through status_in c) ((refl, z), refl)

  buffer_seen : brick.buffer ≡ waiting_at w
  buffer_seen = place_seen ws h p l apart (buffer_of c) ((refl, z), (refl, refl))

  log_seen : brick.log ≡ (log_codec c).dec (run (log_at c) (log_words c) w)
  log_seen = place_seen ws h p l apart (log_of c) ((refl, z), ((refl, refl), refl))

  copies_seen : (g : ℕ) → g < buckets c → brick.copies g ≡ (copies_codec c).dec (run (copies_at c g) (copies_words c) w)
  copies_seen g k = place_seen ws h p l apart (copies_of c g k) ((refl, z), (((refl, refl), refl), λ j m q. refl))

  abbrev up : Bool
  up = (status_at w).up

  up_seen : up ≡ s.bricks.up i
  up_seen = sym (ap (λ (k : Status). k.up) status_seen)

  -- ---- part by part: the test of the words, and the rules' of the brick
  status_same : sound_status up (status_at w).member (status_at w).next (status_at w).ceiling
      ≡ sound_status (s.bricks.up i) (s.bricks.member i) (s.bricks.next i) (s.bricks.ceiling i)
  status_same = ap (λ (k : Status). sound_status k.up k.member k.next k.ceiling) (sym status_seen)

  buffer_same : sound_buffer keys up (waiting_at w) ≡ sound_buffer keys (s.bricks.up i) (s.bricks.buffer i)
  buffer_same = ap (λ (b : Bool). sound_buffer keys b (waiting_at w)) up_seen ∙ ap (sound_buffer keys (s.bricks.up i)) (sym buffer_seen)

  abbrev copies_test : Settings → ℕ → Bool
  copies_test n g = sound_copies keys n (s.bricks.up i) g ((s.bucket g).memory i) ((s.bucket g).disk i)

  copy_same : (g : ℕ) → g < buckets c → copies_sound c keys up (run all_copies_at (all_copies_codec c).size w) g ≡ copies_test c g
  unfolding copies_sound
  copy_same g k =
      ap (λ (v : List ℕ). sound_copies keys c up g ((copies_codec c).dec v).memory ((copies_codec c).dec v).disk)
      (run_of_run all_copies_at (all_copies_codec c).size (g * copies_words c) (copies_words c) w (omega (arith, long)) (fits_in (copies_words c) k))
      ∙ ap (λ (k : Copies). sound_copies keys c up g k.memory k.disk) (sym (copies_seen g k))
      ∙ ap (λ (b : Bool). sound_copies keys c b g ((s.bucket g).memory i) ((s.bucket g).disk i)) up_seen

  copies_same : all_below (buckets c) (copies_sound c keys up (run all_copies_at (all_copies_codec c).size w))
      ≡ all_below (buckets s.settings) (copies_test s.settings)
  copies_same =
      all_same (buckets c) _ (copies_test c) copy_same ∙ ap (λ (n : Settings). all_below (buckets n) (copies_test n)) (sym (settings_read ws))

  log_same : sound_log keys c ((log_codec c).dec (run (log_at c) (log_words c) w)) ≡ sound_log keys s.settings (s.bricks.log i)
  log_same = ap (sound_log keys c) (sym log_seen) ∙ ap (λ (n : Settings). sound_log keys n (s.bricks.log i)) (sym (settings_read ws))

  module _ (lim : Limits c) (b : Below word_limit ws) where
    abbrev log : List ℕ
    log = run (log_at c) (log_words c) w

    log_long : length log ≡ log_words c
    log_long = run_length (log_at c) (log_words c) w (omega (arith, long))

    log_small : Below word_limit log
    log_small = below_take (log_words c) (below_drop (log_at c) (below_take (place_words c) (below_drop (place_at c p) b)))

    pub brick_there : brick_sound c keys w ≡ true → PlaceClean c w × (sound_brick s i ≡ true)
    unfolding brick_sound status_sound log_sound sound_brick
    brick_there y =
        let three = and_l _ _ y in
        let two = and_l _ _ three in
        let flags = and_l _ _ two in
        let chunks = and_r _ _ y in (
          record {
            up = leb-true _ _ (and_r _ _ (and_l _ _ (and_l _ _ flags)));
            member = leb-true _ _ (and_r _ _ (and_l _ _ flags));
            began = leb-true _ _ (and_r _ _ flags);
            log = log_cleaned keys c lim log log_long log_small (and_l _ _ chunks);
          },
          both _ _ (both _ _ (both _ _ (sym status_same ∙ and_l _ _ (and_l _ _ (and_l _ _ flags))) (sym buffer_same ∙ and_r _ _ two))
              (sym copies_same ∙ and_r _ _ three)) (sym log_same ∙ and_r _ _ chunks),
        )

    pub brick_back : PlaceClean c w → sound_brick s i ≡ true → brick_sound c keys w ≡ true
    unfolding brick_sound status_sound log_sound sound_brick
    brick_back k y =
        let three = and_l _ _ y in
        let two = and_l _ _ three in
        let chunks = log_same ∙ and_r _ _ y in
        both _ _ (both _ _ (both _ _
        (both _ _ (both _ _ (both _ _ (status_same ∙ and_l _ _ two) (le-leb _ _ k.up)) (le-leb _ _ k.member)) (le-leb _ _ k.began))
        (buffer_same ∙ and_r _ _ two)) (copies_same ∙ and_r _ _ three))
        (both _ _ (log_good keys c lim log log_long k.log chunks) chunks)
