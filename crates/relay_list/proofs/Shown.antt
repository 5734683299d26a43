-- What is asked before a bag is handed out, and what is promised then.
use Rattle.std.proofs.Common.{◌≡◌, sym, ◌∙◌, ap}
use mathlib.Core.Bool.{true, false}
use mathlib.Core.List.{List}
use Prim.Native.Nat.{ℕ, ◌<◌, ◌≤◌}
use lib.Dec.{leb}
use lib.ListN.{length}
use native.Mathlib.Omega.{arith}
use borrow.Author.Tests.{le-leb, lt-leb, leb-true}
use Rattle.lists.proofs.Tests.{by, both, and_l, and_r}
use Rattle.rules.specs.declared.refusal.Refusal.{Refusal}
use Rattle.rules.specs.Refusals.{number}
use Rattle.rules.specs.Question.{first_no}
use Rattle.rules.proofs.Refusals.{never_zero}
use Rattle.rules.specs.State.{Relay as Held}
use Rattle.words.specs.Words.{words}
use Rattle.layout.specs.Store.{sound_bytes}
use Rattle.bag.specs.declared.Relay.{Relay}
use Rattle.relays.specs.Relays.{BagPart}
use Rattle.relay_list.specs.Relays.{over, Loads}
use Rattle.relay_list.specs.Shown.{stored_bag, show_asks, is_shown, Shows}

module _ (store : List ℕ) where
  pub unsound : (room : ℕ) → sound_bytes store ≡ false → 2 ≡ first_no (show_asks store room)
  unfolding first_no
  unsound room wrong = rw wrong

  pub too_few : (room : ℕ) → sound_bytes store ≡ true → room < length (stored_bag store) → 3 ≡ first_no (show_asks store room)
  unfolding first_no
  too_few room right few = rw (right, lt-leb (length (stored_bag store)) room few)

  pub all_yes : (room : ℕ) → sound_bytes store ≡ true → length (stored_bag store) ≤ room → 0 ≡ first_no (show_asks store room)
  unfolding first_no
  all_yes room right enough = rw (right, le-leb (length (stored_bag store)) room enough)

  both_yes : (room : ℕ) → first_no (show_asks store room) ≡ 0 → (sound_bytes store ≡ true) × (leb (length (stored_bag store)) room ≡ true)
  unfolding first_no
  both_yes room e = by (sound_bytes store)
      (λ right. by (leb (length (stored_bag store)) room) (λ enough. (right, enough)) (λ few. absurd (omega (arith, rw (right, few) at e))))
      (λ wrong. absurd (omega (arith, rw wrong at e)))

  -- ---- what is promised where no question is answered no
  module _ (list : List Relay) (asked : 0 ≡ first_no (show_asks store (length list))) where
    pub sound_one : sound_bytes store ≡ true
    sound_one = (both_yes (length list) (sym asked)).0

    pub has_records : length (stored_bag store) ≤ length list
    has_records = leb-true _ _ (both_yes (length list) (sym asked)).1

    pub handed : (part : List ℕ) (count : ℕ) (after : List Relay) → BagPart (stored_bag store) part → Loads (words part) list count after
        → Shows store list (record { code = 0; count = count }) after
    handed part count after bag loads =
        let yes_both = both_yes (length list) (sym asked) in
        let all = both (sound_bytes store) (leb (length (stored_bag store)) (length list)) yes_both.0 yes_both.1 in
        record {
          code = asked;
          count = rw all (loads.number ∙ ap length bag.same);
          records = rw all (loads.records ∙ ap (λ (l : List Held). over l list) bag.same);
        }

  -- ---- and where one is
  pub hidden : (list : List Relay) (r : Refusal) → number r ≡ first_no (show_asks store (length list))
      → Shows store list (record { code = number r; count = 0 }) list
  unfolding first_no
  hidden list r asked = by (is_shown store list)
      (λ all. absurd (never_zero r (asked ∙ sym (all_yes (length list) (and_l _ _ all) (leb-true _ _ (and_r _ _ all))))))
      (λ none. record { code = asked; count = rw none; records = rw none })
