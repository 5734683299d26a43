-- The bag: its relays one after the other.
use mathlib.Core.Path.{◌≡◌, ap, ◌∙◌}
use mathlib.Core.List.{List, ◌∷◌}
use mathlib.Core.Bool.{Bool, true, false}
use Rattle.std.specs.List.{list_all, range_with_len}
use Rattle.std.proofs.Common.{◌&&◌}
use Prim.Native.Nat.{ℕ, zero, suc, ◌+◌, ◌*◌, ◌≤◌, ◌<◌}
use native.Mathlib.Nat.{add-zero}
use native.Mathlib.Omega.{arith}
use lib.ListN.{drop, get_or}
use lib.Seq.{get_or-drop}
use borrow.Author.Tests.{lt-leb, le-leb}
use Rattle.lists.specs.Tests.{◌and◌, every}
use Rattle.lists.specs.Runs.{nth_run}
use Rattle.lists.specs.Rows.{rows, table_dec}
use Rattle.rules.specs.declared.settings.Settings.{Settings}
use Rattle.rules.specs.Limits.{max_relays}
use Rattle.rules.specs.State.{Relay}
use Rattle.rules.specs.Sound.{sound_relay, sound_bag}
use Rattle.layout.specs.Contents.{relay_row}
use Rattle.layout.specs.Layout.{bag_codec}
use Rattle.part_checks.specs.Bag.{relay_in_words}
use Rattle.lists.proofs.Tests.{no_first, yes_first}
use Rattle.lists.proofs.Runs.{run_at}
use Rattle.lists.proofs.Rows.{length_rows, rows_from, rows_past}

word_of : (ws : List ℕ) (i k : ℕ) → k < 5 → get_or (nth_run 5 i (drop 1 ws)) k 0 ≡ get_or ws (1 + 5 * i + k) 0
word_of ws i k h =
    run_at (i * 5) 5 k (drop 1 ws) h ∙ get_or-drop 1 ws (i * 5 + k) 0 ∙ ap (λ (j : ℕ). get_or ws j 0) (omega arith)

pub read_relay : (ws : List ℕ) (i : ℕ) → relay_row.read (nth_run 5 i (drop 1 ws)) ≡ relay_in_words ws i
read_relay ws i =
    rw (
      word_of ws i 0 (omega arith),
      word_of ws i 1 (omega arith),
      word_of ws i 2 (omega arith),
      word_of ws i 3 (omega arith),
      word_of ws i 4
          (omega arith),
      add-zero (1 + 5 * i),
    )

module _ (c : Settings) (good : ℕ → Bool) (ws : List ℕ) (n : ℕ) (e : n ≡ get_or ws 0 0) where
  -- what is left to test from relay i on
  unfoldable pub relays_left : ℕ → Bool
  relays_left i = every (sound_relay good c) (drop i (rows 5 relay_row.read n (drop 1 ws)))

  pub bag_over : max_relays < n → sound_bag good c (bag_codec.dec ws) ≡ false
  unfolding sound_bag table_dec
  bag_over h = no_first _ _ (rw (length_rows 5 relay_row.read (get_or ws 0 0) (drop 1 ws), ← e) (lt-leb n max_relays h))

  pub bag_begin : n ≤ max_relays → sound_bag good c (bag_codec.dec ws) ≡ relays_left 0
  unfolding sound_bag relays_left table_dec
  bag_begin h = yes_first _ _ (rw (length_rows 5 relay_row.read (get_or ws 0 0) (drop 1 ws), ← e) (le-leb n max_relays h)) ∙ rw e

  bag_end : (i : ℕ) → i ≤ n → n ≤ i → relays_left i ≡ true
  unfolding relays_left every
  bag_end i l m = let q : i ≡ n = omega arith in rw (q, rows_past 5 relay_row.read n (drop 1 ws))

  module _ (i : ℕ) (h : i < n) where
    turn : relays_left i ≡ (sound_relay good c (relay_in_words ws i) and relays_left (i + 1))
    unfolding relays_left every
    turn =
        ap (every (sound_relay good c)) (rows_from 5 relay_row.read n i (drop 1 ws) h)
        ∙ ap (λ (r : Relay). every (sound_relay good c) (r ∷ drop (i + 1) (rows 5 relay_row.read n (drop 1 ws)))) (read_relay ws i)

  -- from relay i on, one by one
  pub left_range : (k i : ℕ) → i + k ≡ n → relays_left i ≡ list_all (λ j. sound_relay good c (relay_in_words ws j)) (range_with_len i k)
  unfolding ◌and◌
  left_range zero i q = bag_end i (omega arith) (omega arith)
  left_range (suc k) i q = turn i (omega arith) ∙ ap (λ b. sound_relay good c (relay_in_words ws i) && b) (left_range k (i + 1) (omega arith))
