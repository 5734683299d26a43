-- No get answers 11: where every key in use is kept by a member, every mapped key is found.
use mathlib.Core.Path.{◌≡◌}
use mathlib.Core.Bool.{true}
use mathlib.Core.Logic.{inl, inr}
use Prim.Native.Nat.{ℕ}
use native.Mathlib.Omega.{arith}
use lib.Dec.{ltb}
use borrow.Author.Tests.{lt-ltb}
use Rattle.lists.proofs.Tests.{by_eq, or_l, or_r}
use Rattle.rules.specs.Numbers.{home_of}
use Rattle.rules.specs.Event.{Event}
use Rattle.rules.specs.State.{State}
use Rattle.rules.specs.Derived.{members_from, holder, bucket_no, bucket_at}
use Rattle.rules.specs.Question.{first_no, is_ready}
use Rattle.rules.specs.Reads.{mapped, get_asks}
use Rattle.rules.specs.Step.{rule}
use Rattle.rules.proofs.Step.{never_answered}
use Rattle.rules.proofs.Derived.{bucket_below, in_ids, ids_in, in_members_from, members_from_in, first_holder_found}
use Rattle.rules.proofs.Chunks.{saved_held}
use Rattle.rules.proofs.Sound.{Sound}
use Rattle.history.specs.Claim.{History}
use Rattle.history.proofs.Sound.Groups.{member_here}
use Rattle.history.proofs.Copies.{primary_relied}
use Rattle.history.proofs.Facts.{present_born, brick_here}
use Rattle.history.proofs.AgeingInvariant.{AgeingInvariant}
use Rattle.history.proofs.WantInvariant.{KeptBy, Uses}

module _ (s : State) (z : Sound s) where
  kept_found : (k : ℕ) → KeptBy s k → (k ≡ 0 → ⊥) → ltb 0 (holder s k) ≡ true
  unfolding holder
  kept_found k (inl e) n = absurd (n e)
  kept_found k (inr t) n =
      let present = brick_here s z t.who t.is_among in
      let is_id = in_ids s.given s.bricks.member t.who (z.bricks.first _ present) (present_born s z _ present) t.is_among in
      lt-ltb _ _ (first_holder_found s.bricks k t.who (members_from s (home_of k)) (λ j m. (ids_in _ _ j (members_from_in s _ j m)).0) (in_members_from s _ t.who is_id)
      (z.bricks.member_up _ t.is_among) (saved_held _ k t.saved))

  pub get_found : (h : History) → AgeingInvariant s h → Uses (KeptBy s) s → (p b : ℕ) → first_no (rule s (Event.get p b)).questions ≡ 11 → ⊥
  unfolding rule
  get_found h v u p b =
      never_answered 11 (get_asks s p b) (omega arith)
      (λ y.
      let k = bucket_at s b in
      let l = bucket_below s.settings b in
      let ready : is_ready s b ≡ true = search in
      let relied = primary_relied k ((v.buckets (bucket_no s b) l).same ready) (member_here z k.primary (search)) in
      let kept = (u.buckets (bucket_no s b) l).copies.memory k.primary relied b in
      (by_eq (mapped s b) 0 (λ q _. or_l _ _ q) (λ _ n. or_r _ _ (kept_found _ kept n)), tt))
