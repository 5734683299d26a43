-- mend and collect keep the invariant of the ageing rule.
use Prim.Native.Nat.{ℕ}
use Rattle.lists.proofs.Tests.{only_in, one_more}
use Rattle.rules.specs.Chunks.{save_key, only_named}
use Rattle.rules.specs.Event.{Event}
use Rattle.rules.specs.State.{State}
use Rattle.rules.specs.Derived.{holder}
use Rattle.rules.specs.Upkeep.{mend_effect, collect_effect}
use Rattle.rules.specs.Step.{rule}
use Rattle.history.specs.Claim.{History}
use Rattle.history.proofs.Mend.{mend_keeps}
use Rattle.history.proofs.AgeingInvariant.{AgeingInvariant}
use Rattle.history.proofs.Ageing.Writes.{log_ageing, write_bytes_held, write_bytes_save}

module _ (s : State) (h : History) (v : AgeingInvariant s h) where
  pub mend_ageing : (i : ℕ) → AgeingInvariant (rule s (Event.mend i)).after h
  unfolding rule mend_effect save_key
  mend_ageing i =
      log_ageing s h v _ _ (mend_keeps s (s.ids i) _ (λ l k. write_bytes_save s h v _ l) (λ l k _ y o. one_more l o (write_bytes_held s h v (holder s k) k y)) (v.logs _))

  pub collect_ageing : (i : ℕ) → AgeingInvariant (rule s (Event.collect i)).after h
  unfolding rule collect_effect only_named
  collect_ageing i = log_ageing s h v _ _ (λ c m. v.logs _ c (only_in _ _ m).0)
