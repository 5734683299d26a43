-- What a place is to the check.
use mathlib.Core.Path.{◌≡◌, refl, sym, ap, ◌∙◌}
use mathlib.Core.List.{List, [], ◌∷◌}
use mathlib.Core.Bool.{Bool, true, false, not}
use Prim.Native.Nat.{ℕ, ◌+◌, ◌*◌, ◌≤◌, ◌<◌}
use native.Mathlib.Omega.{arith}
use lib.Dec.{leb, eqb}
use lib.ListN.{length, get_or}
use borrow.Author.Tests.{eqb-true, eq-eqb, ne_eqb, leb-true, lt-leb, le-leb}
use Rattle.lists.specs.Tests.{◌and◌, ◌or◌, all_below, every}
use Rattle.lists.specs.Runs.{run, nth_run}
use Rattle.lists.specs.Rows.{rows, table_dec}
use Rattle.lists.proofs.Runs.{fits_in, run_of_run, run_at}
use Rattle.lists.proofs.Rows.{length_rows}
use Rattle.lists.proofs.Tests.{by_eq, and_l, and_r, both, if_so, so_if, all_at, or_l, no_second, yes_second, or_no, no_first, yes_first, same_test}
use Rattle.rules.specs.declared.settings.Settings.{Settings}
use Rattle.rules.specs.Limits.{buckets, max_waiting}
use Rattle.rules.specs.Numbers.{sequences}
use Rattle.rules.specs.Sound.{sound_entries, sound_table, anyone, in_bucket, sound_status, sound_buffer, sound_copies, alone, sound_place}
use Rattle.rules.specs.Limits.{Limits}
use Rattle.words.specs.Words.{words}
use Rattle.words.proofs.Laws.{length_words}
use Rattle.layout.specs.Contents.{Status, entry_row}
use Rattle.layout.specs.Layout.{status_codec, buffer_codec, copy_codec, all_copies_codec, buffer_at, all_copies_at}
use Rattle.layout.specs.Layout.{status_words, copy_words, copies_words, place_words, store_words, place_at, copies_at, place_part}
use Rattle.layout.specs.Layout.{up_at, member_at, began_at, next_at, ceiling_at}
use Rattle.row_checks.specs.Rows.{key_below}
use Rattle.part_checks.specs.Copies.{copies_sound, memory_of, Passed}
use Rattle.store_check.specs.Places.{status_at, status_sound, waiting_at, brick_sound, id_at, place_sound}

-- ---- a place, by its id
module _ (given : ℕ) (ids : ℕ → ℕ) (brick : ℕ → Bool) (p id : ℕ) (e : id ≡ ids p) where
  abbrev apart : Bool
  apart = all_below p (λ q. not (eqb (ids q) id))

  pub place_empty : id ≡ 0 → sound_place given ids brick p ≡ true
  unfolding sound_place
  place_empty z = or_l _ _ (rw (← e) (eq-eqb id 0 z))

  module _ (o : id ≡ 0 → ⊥) where
    pub held : sound_place given ids brick p ≡ (leb id given and apart and brick p)
    unfolding sound_place alone
    held = rw (← e) (or_no _ _ (ne_eqb id 0 o))

    pub place_far : given < id → sound_place given ids brick p ≡ false
    place_far l = held ∙ no_first _ _ (no_first _ _ (lt-leb id given l))

    pub place_twice : apart ≡ false → sound_place given ids brick p ≡ false
    place_twice t = held ∙ no_first _ _ (no_second _ _ t)

    pub place_brick : id ≤ given → apart ≡ true → sound_place given ids brick p ≡ brick p
    place_brick l t = held ∙ yes_first _ _ (both _ _ (le-leb id given l) t)

-- ---- the copies at the places that passed
module _ (c : Settings) (ws : List ℕ) (h : length ws ≡ store_words c) (g q : ℕ) (hg : g < buckets c) (hq : q < c.places) where
  all_copies : run all_copies_at (all_copies_codec c).size (place_part c q ws) ≡ run (place_at c q + all_copies_at) (all_copies_codec c).size ws
  all_copies = run_of_run (place_at c q) (place_words c) all_copies_at (all_copies_codec c).size ws (omega (arith, fits_in (place_words c) hq)) (omega arith)

  of_bucket : nth_run (copies_words c) g (run (place_at c q + all_copies_at) (all_copies_codec c).size ws)
      ≡ run (place_at c q + all_copies_at + g * copies_words c) (copies_words c) ws
  of_bucket =
      run_of_run (place_at c q + all_copies_at) (all_copies_codec c).size (g * copies_words c) (copies_words c) ws
      (omega (arith, fits_in (place_words c) hq)) (fits_in (copies_words c) hg)

  in_memory : run 0 (copy_words c) (run (place_at c q + all_copies_at + g * copies_words c) (copies_words c) ws) ≡ memory_of c ws g q
  in_memory =
      run_of_run (place_at c q + all_copies_at + g * copies_words c) (copies_words c) 0 (copy_words c) ws
      (omega (arith, fits_in (place_words c) hq, fits_in (copies_words c) hg)) (omega arith)
      ∙ ap (λ (k : ℕ). run k (copy_words c) ws) {x = place_at c q + all_copies_at + g * copies_words c + 0} {y = place_at c q + copies_at c g} (omega arith)

  memory_there : run 0 (copy_words c) (nth_run (copies_words c) g (run all_copies_at (all_copies_codec c).size (place_part c q ws))) ≡ memory_of c ws g q
  memory_there = ap (λ (v : List ℕ). run 0 (copy_words c) (nth_run (copies_words c) g v)) all_copies ∙ ap (run 0 (copy_words c)) of_bucket ∙ in_memory

  memory_passed : (good : ℕ → Bool) → brick_sound c good (place_part c q ws) ≡ true
      → sound_table good (in_bucket c g) c.entries ((copy_codec c).dec (memory_of c ws g q)) ≡ true
  unfolding brick_sound copies_sound sound_copies
  memory_passed good y =
      ap (λ (v : List ℕ). sound_table good (in_bucket c g) c.entries ((copy_codec c).dec v)) (sym memory_there)
      ∙ and_l _ _ (and_l _ _ (all_at (buckets c) _ (and_r _ _ (and_l _ _ y)) g hg))

pub passed_below : (c : Settings) (bounds store : List ℕ) (given p : ℕ) → Limits c → length store ≡ 8 * store_words c → p < c.places
    → ((k : ℕ) → k < p → place_sound c (key_below bounds) given (words store) k ≡ true) → Passed c bounds store p
passed_below c bounds store given p small size inside e =
    record {
      small = small;
      size = size;
      inside = inside;
      each = λ g q hg hq b. memory_passed c (words store) (length_words store ∙ omega arith) g q hg (omega arith) (key_below bounds)
          (and_r _ _ (sym (held given (id_at c (words store)) (λ k. brick_sound c (key_below bounds) (place_part c k (words store))) q _ refl (λ z. omega arith))
          ∙ e q hq));
    }

-- ---- an append buffer
module _ (keys : ℕ → Bool) (up : Bool) (w : List ℕ) where
  count : get_or (run buffer_at buffer_codec.size w) 0 0 ≡ get_or w buffer_at 0
  count = run_at buffer_at buffer_codec.size 0 w (omega arith)

  long : length (waiting_at w) ≡ get_or w buffer_at 0
  unfolding table_dec
  long = length_rows 2 entry_row.read (get_or (run buffer_at buffer_codec.size w) 0 0) _ ∙ count

  none : get_or w buffer_at 0 ≡ 0 → sound_entries keys anyone max_waiting (waiting_at w) ≡ true
  unfolding sound_entries every rows table_dec ◌and◌
  none e = rw (count ∙ e)

  -- of a down brick it is empty
  pub buffer_down : up ≡ false → (n : ℕ) → n ≡ get_or w buffer_at 0 → eqb n 0 ≡ sound_buffer keys up (waiting_at w)
  unfolding sound_buffer
  buffer_down u n e =
      let last : (up or eqb (length (waiting_at w)) 0) ≡ eqb n 0 = or_no _ _ u ∙ ap (λ (k : ℕ). eqb k 0) (long ∙ sym e) in
      by_eq n 0 (λ q z. q ∙ sym (both _ _ (none (sym e ∙ z)) (last ∙ q))) (λ q z. q ∙ sym (no_second _ _ (last ∙ q)))

  pub buffer_up : up ≡ true → (v : List ℕ) → v ≡ run buffer_at buffer_codec.size w
      → sound_entries keys anyone max_waiting (buffer_codec.dec v) ≡ sound_buffer keys up (waiting_at w)
  unfolding sound_buffer
  buffer_up u v e = rw e (sym (yes_second _ _ (or_l _ _ u)))

-- ---- the status: five words
five : (w : List ℕ)
    → status_codec.dec w
    ≡ record { up = eqb (get_or w 0 0) 1; member = eqb (get_or w 1 0) 1; began = eqb (get_or w 2 0) 1; next = get_or w 3 0; ceiling = get_or w 4 0 }
five [] = refl
five (a ∷ []) = refl
five (a ∷ b ∷ []) = refl
five (a ∷ b ∷ c ∷ []) = refl
five (a ∷ b ∷ c ∷ d ∷ []) = refl
five (a ∷ b ∷ c ∷ d ∷ e ∷ w) = refl

module _ (w : List ℕ) where
  abbrev word_at : ℕ → ℕ
  word_at k = get_or w k 0

  pub status_is : status_at w
      ≡ record {
        up = eqb (word_at up_at) 1;
        member = eqb (word_at member_at) 1;
        began = eqb (word_at began_at) 1;
        next = word_at next_at;
        ceiling = word_at ceiling_at;
      }
  status_is =
      five (run up_at status_words w)
      ∙ rw (
        run_at up_at 5 0 w (omega arith),
        run_at up_at 5 1 w (omega arith),
        run_at up_at 5 2 w (omega arith),
        run_at up_at 5 3 w (omega arith),
        run_at up_at 5 4 w (omega arith),
      )

  pub up_is : (status_at w).up ≡ eqb (word_at up_at) 1
  up_is = ap (λ (k : Status). k.up) status_is

-- ---- flags: a member is up
flag_test : (m u : ℕ) → m ≤ u → u ≤ 1 → (not (eqb m 1) or eqb u 1) ≡ true
flag_test m u h k = so_if (eqb m 1) (eqb u 1) (λ y. let e = eqb-true m 1 y in eq-eqb u 1 (omega arith))

flag_order : (m u : ℕ) → m ≤ 1 → (not (eqb m 1) or eqb u 1) ≡ true → m ≤ u
flag_order m u h y =
    by_eq m 1 (λ q e. let f = eqb-true u 1 (if_so (eqb m 1) (eqb u 1) y q) in omega arith) (λ _ e. omega arith)

module _ (u m b n t : ℕ) where
  abbrev in_words : Bool
  in_words = leb u 1 and leb m u and leb b 1 and leb n t and leb t sequences

  abbrev by_flags : Bool
  by_flags = sound_status (eqb u 1) (eqb m 1) n t and leb u 1 and leb m 1 and leb b 1

  status_there : in_words ≡ true → by_flags ≡ true
  unfolding sound_status
  status_there y =
      let three = and_l _ _ (and_l _ _ y) in
      let hu : u ≤ 1 = leb-true _ _ (and_l _ _ (and_l _ _ three)) in
      let hm : m ≤ u = leb-true _ _ (and_r _ _ (and_l _ _ three)) in
      both _ _ (both _ _ (both _ _ (both _ _ (both _ _ (flag_test m u hm hu) (and_r _ _ (and_l _ _ y))) (and_r _ _ y)) (le-leb u 1 hu))
      (le-leb m 1 (omega arith))) (and_r _ _ three)

  status_back : by_flags ≡ true → in_words ≡ true
  unfolding sound_status
  status_back y =
      let status = and_l _ _ (and_l _ _ (and_l _ _ y)) in
      let hm : m ≤ 1 = leb-true _ _ (and_r _ _ (and_l _ _ y)) in
      both _ _ (both _ _ (both _ _ (both _ _ (and_r _ _ (and_l _ _ (and_l _ _ y))) (le-leb m u (flag_order m u hm (and_l _ _ (and_l _ _ status)))))
      (and_r _ _ y)) (and_r _ _ (and_l _ _ status))) (and_r _ _ status)

pub status_words_sound : (w : List ℕ)
    → (leb (get_or w up_at 0) 1 and leb (get_or w member_at 0) (get_or w up_at 0) and leb (get_or w began_at 0) 1 and leb (get_or w next_at 0) (get_or w ceiling_at 0)
    and leb (get_or w ceiling_at 0) sequences) ≡ status_sound w
unfolding status_sound
status_words_sound w =
    same_test _ _ (status_there (get_or w up_at 0) (get_or w member_at 0) (get_or w began_at 0) (get_or w next_at 0) (get_or w ceiling_at 0))
    (status_back (get_or w up_at 0) (get_or w member_at 0) (get_or w began_at 0) (get_or w next_at 0) (get_or w ceiling_at 0))
    ∙ sym (ap (λ (k : Status). sound_status k.up k.member k.next k.ceiling and leb (get_or w up_at 0) 1 and leb (get_or w member_at 0) 1
    and leb (get_or w began_at 0) 1) (status_is w))
