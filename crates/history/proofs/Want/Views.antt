-- view, fetch and ready keep what the claim on want asks of pairs and relays; and a bucket that is not ready has a source.
use mathlib.Core.Path.{◌≡◌, refl, sym, ap, ◌∙◌}
use mathlib.Core.Bool.{Bool, true, false, not}
use mathlib.Core.Logic.{inl, inr}
use Prim.Native.Nat.{ℕ, ◌<◌}
use native.Mathlib.Omega.{arith}
use lib.Dec.{ltb}
use borrow.Author.Tests.{ltb-true, lt-ltb, not-true}
use Rattle.lists.proofs.Tests.{either, impossible, clash, and_r, both}
use Rattle.lists.proofs.Columns.{upd_same, upd_all, unflag}
use Rattle.rules.specs.Limits.{buckets}
use Rattle.rules.specs.Event.{Event}
use Rattle.rules.specs.State.{State}
use Rattle.rules.specs.Derived.{up_member}
use Rattle.rules.specs.Question.{first_no}
use Rattle.rules.specs.Views.{view_effect, source, fetch_asks, fetch_effect, ready_effect}
use Rattle.rules.specs.Step.{rule}
use Rattle.rules.proofs.Step.{Yes, never_answered}
use Rattle.rules.proofs.Sound.{Sound}
use Rattle.history.specs.Claim.{History, views, readies, awaiting_by}
use Rattle.history.proofs.AgeingInvariant.{AgeingInvariant}
use Rattle.history.proofs.WantInvariant.{WantOf, Wants}
use Rattle.history.proofs.Ageing.Views.{still}

module _ (s : State) (z : Sound s) (o : ℕ → Bool) (w : Wants s o) where
  -- ---- view: members are all up bricks, and every member was one
  pub view_wants : Wants (rule s Event.view).after (awaiting_by o views)
  unfolding rule view_effect
  view_wants g l = record {
    pair = record {
      tracked = λ _. refl;
      one = elim (w g l).pair.one [ inl y ↦ inl (z.bricks.member_up _ y) | inr y ↦ inr (z.bricks.member_up _ y) ];
      all = λ y. impossible y;
    };
    matches_backup = λ y. impossible y;
  }

  pub fetch_wants : (g : ℕ) → Yes s (Event.fetch g) → Wants (rule s (Event.fetch g)).after o
  unfolding rule fetch_effect
  fetch_wants g y =
      let unready : (s.bucket g).ready ≡ false = search not-true in
      upd_all (WantOf s o) s.bucket g _ w (λ l. record { pair = (w g l).pair; matches_backup = λ t. clash unready t })

  pub ready_wants : (h : History) → AgeingInvariant s h → (g : ℕ) → Yes s (Event.ready g) → Wants (rule s (Event.ready g)).after (awaiting_by o (readies g))
  unfolding rule ready_effect
  ready_wants h v g y =
      let k = s.bucket g in
      let unready : k.ready ≡ false = search not-true in
      let one : s.bricks.member k.primary ≡ true = search and_r in
      let two : s.bricks.member k.backup ≡ true = search and_r in
      upd_all (WantOf s (awaiting_by o (readies g))) s.bucket g _
      (λ j l.
      let u = w j l in
      record { pair = record { tracked = λ t. u.pair.tracked (unflag o g j t).0; one = u.pair.one; all = u.pair.all }; matches_backup = u.matches_backup })
      (λ l. record {
        pair = record { tracked = λ t. impossible (sym (upd_same o g false) ∙ t); one = inl one; all = λ _ _. (one, two) };
        matches_backup = λ _ _ r m. absurd (still s h v z g l unready r m);
      })

  -- ---- no fetch answers 13 where the bucket is open
  source_found : (g : ℕ) → g < buckets s.settings → ltb 0 (source s g) ≡ true
  unfolding source
  source_found g l =
      let k = s.bucket g in
      let last = (z.buckets_ok g l).last in
      let is_up : (i : ℕ) → s.bricks.member i ≡ true → up_member s i ≡ true = λ i y. both _ _ (z.bricks.member_up i y) y in
      let P : ℕ → Type 0 = λ i. ltb 0 i ≡ true in
      either P (up_member s k.last_primary) (λ _. lt-ltb _ _ last.one_first)
      (λ n. either P (up_member s k.last_backup) (λ _. lt-ltb _ _ last.two_first)
      (λ m. elim (w g l).pair.one [ inl y ↦ clash n (is_up _ y) | inr y ↦ clash m (is_up _ y) ]))

  pub fetch_found : (g : ℕ) → o g ≡ true → first_no (rule s (Event.fetch g)).questions ≡ 13 → ⊥
  unfolding rule
  fetch_found g opened =
      never_answered 13 (fetch_asks s g) (omega arith)
      (λ y. let l : g < buckets s.settings = search ltb-true in (ap not ((w g l).pair.tracked opened), (source_found g l, tt)))
