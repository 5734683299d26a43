-- get of a caller that takes a part, by the call that fills an area.
use mathlib.Core.Path.{◌≡◌, refl, ap, ◌∙◌}
use mathlib.Core.List.{List, []}
use mathlib.Core.Bool.{true, false}
use Prim.Native.Nat.{ℕ}
use native.Mathlib.Omega.{arith}
use lib.Dec.{eqb}
use lib.ListN.{length}
use borrow.Author.Tests.{ne_eqb}
use Rattle.lists.specs.Tests.{◌and◌}
use Rattle.lists.specs.Runs.{Below}
use Rattle.lists.proofs.Tests.{both, and_l, no_first}
use Rattle.std.specs.Prelude.{Result, Ok, Err}
use Rattle.rules.specs.declared.refusal.Refusal.{Refusal}
use Rattle.rules.specs.declared.refusal.Refusal.TheVariants.{Unsound, BadInput}
use Rattle.rules.specs.Refusals.{number, code_of}
use Rattle.rules.proofs.Refusals.{never_zero}
use Rattle.rules.specs.Event.{Event}
use Rattle.rules.specs.Call.{is_zero_block}
use Rattle.rules.specs.State.{State}
use Rattle.layout.specs.Store.{decode_bytes, sound_bytes}
use Rattle.lent.specs.Stores.{SoundStore}
use Rattle.calls.specs.Outcome.{Outcome, outcome, outcome_of}
use Rattle.reads.specs.declared.Found.{Found}
use Rattle.reads.specs.Get.{found_key, found_bytes, Gets}
use Rattle.reads.proofs.Outcomes.{fills_refused, fills_accepted, not_lent, lent}
use Rattle.step.specs.Get.{part_call, GetsPart}
use Rattle.step.proofs.Outcomes.{unsound_steps, get_steps}

module _ (bs blank : List ℕ) (p b : ℕ) where
  -- ---- refused: the part is empty
  refused_part : (r : Refusal) → outcome_of (Err r) blank bs ≡ outcome bs (part_call blank p b) → GetsPart bs blank p b (number r) 0 []
  refused_part r e = record {
    number = ap (λ (o : Outcome). o.code) e;
    found = ap (λ (o : Outcome). o.key) e;
    same = rw (ne_eqb (number r) 0 (never_zero r)) refl;
  }

  pub unsound_part : sound_bytes bs ≡ false → GetsPart bs blank p b 2 0 []
  unsound_part n = refused_part Unsound (unsound_steps (part_call blank p b) bs n)

  module _ (sd : SoundStore bs) (below : Below 256 bs) where
    pub unlent_part : is_zero_block (decode_bytes bs).settings.size blank ≡ false → GetsPart bs blank p b 3 0 []
    unlent_part n =
        refused_part BadInput (get_steps bs sd below (part_call blank p b) refl (Err BadInput) blank (not_lent (decode_bytes bs) p b blank blank (no_first _ _ n)))

    module _ (y : is_zero_block (decode_bytes bs).settings.size blank ≡ true) where
      both_lent : (is_zero_block (decode_bytes bs).settings.size blank and eqb (length blank) (decode_bytes bs).settings.size) ≡ true
      unfolding is_zero_block
      both_lent = both _ _ y (and_l _ _ y)

      pub got_part : (r : Result Found Refusal) → Gets (decode_bytes bs) p b (code_of r) (found_key r) (found_bytes r)
          → GetsPart bs blank p b (code_of r) (found_key r) (found_bytes r)
      got_part (Ok found) g =
          let e = get_steps bs sd below (part_call blank p b) refl (Ok found.key) found.bytes.now (lent (decode_bytes bs) p b blank blank both_lent
          (fills_accepted (decode_bytes bs) p b g blank found.bytes.now refl)) in
          record { number = ap (λ (o : Outcome). o.code) e; found = ap (λ (o : Outcome). o.key) e; same = ap (λ (o : Outcome). o.area) e }
      got_part (Err refusal) g =
          refused_part refusal (get_steps bs sd below (part_call blank p b) refl (Err refusal) blank (lent (decode_bytes bs) p b blank blank both_lent
          (fills_refused (decode_bytes bs) p b refusal g blank)))
