-- Every accepted event keeps the invariant of the claim on want, a crash and a loss where they find a whole store; and format begins it.
use mathlib.Core.Path.{◌≡◌, refl}
use mathlib.Core.List.Memᴰ
use mathlib.Core.Bool.{Bool, true, false}
use mathlib.Core.Logic.{inl, inr}
use Prim.Native.Nat.{ℕ, ◌<◌}
use lib.Dec.{ltb}
use borrow.Author.Tests.{lt-ltb}
use Rattle.lists.proofs.Tests.{either, clash, impossible, all_at}
use Rattle.rules.specs.declared.settings.Settings.{Settings}
use Rattle.rules.specs.Limits.{buckets}
use Rattle.rules.specs.Event.{Event}
use Rattle.rules.specs.State.{State, set_bricks}
use Rattle.rules.specs.Format.{first_bucket, format}
use Rattle.rules.specs.Derived.{bucket_at, item, nothing_pending}
use Rattle.rules.specs.Writes.{put_effect, copy_effect, savelog_effect}
use Rattle.rules.specs.Maps.{map_effect, send_effect, is_taken, deliver_effect, drop_effect, savemap_effect, item_goes, learn_effect, reset_effect}
use Rattle.rules.specs.Membership.{rise_effect}
use Rattle.rules.specs.Views.{view_effect, fetch_effect, ready_effect}
use Rattle.rules.specs.Upkeep.{mend_effect, collect_effect}
use Rattle.rules.specs.Whole.{whole}
use Rattle.rules.specs.Step.{rule}
use Rattle.rules.proofs.Step.{Yes}
use Rattle.rules.proofs.Sound.{PairOk, Sound}
use Rattle.history.specs.Claim.{History, meaning, awaiting_by, IsCrashOrLose}
use Rattle.history.proofs.Sound.Format.{in_first}
use Rattle.history.proofs.AgeingInvariant.{AgeingInvariant}
use Rattle.history.proofs.WantInvariant.{Kept, KeptBy, WantOf, Wants, WantInvariant}
use Rattle.history.proofs.Want.Uses.{uses_map, uses_kept, format_uses}
use Rattle.history.proofs.Want.Saved.{kept_by, kept_on, kept_once, put_saves, copy_kept, savelog_saves, mend_saves, collect_left, map_twice}
use Rattle.history.proofs.Want.NothingPending.{wants_follow, uses_mapped, mapped_used}
use Rattle.history.proofs.Want.Relays.{map_wants, send_wants, deliver_wants, fewer_wants}
use Rattle.history.proofs.Want.Membership.{crash_want, lose_want, join_want}
use Rattle.history.proofs.Want.Views.{view_wants, fetch_wants, ready_wants}

module _ (s : State) (h : History) (o : ℕ → Bool) (v : AgeingInvariant s h) (z : Sound s) (w : WantInvariant s o) where
  -- what a member has saved it has after the event
  on : (e : Event) → Yes s e → ((k : ℕ) → KeptBy s k → KeptBy (rule s e).after k) → Wants (rule s e).after (awaiting_by o (meaning e))
      → WantInvariant (rule s e).after (awaiting_by o (meaning e))
  on e y f u = record { uses = uses_map f (uses_kept (KeptBy s) s w.uses h v z e y (λ p b q. kept_once (item s p b) (map_twice s e y p b q))); buckets = u }

  collect_want : (i : ℕ) → Yes s (Event.collect i) → WantInvariant (rule s (Event.collect i)).after o
  unfolding rule collect_effect
  collect_want i y =
      let nothing_pending_in : (g : ℕ) → g < buckets s.settings → nothing_pending (s.bucket g) ≡ true = all_at _ _ (search) in
      let follows = wants_follow s o w.buckets in
      record {
        uses = uses_mapped s h v nothing_pending_in follows (KeptBy s) w.uses (KeptBy (collect_effect s (s.ids i)))
            (λ g l b. collect_left s s.bricks.member (s.ids i) g l b (mapped_used s h v nothing_pending_in follows (KeptBy s) w.uses z (inl refl) g l b));
        buckets = w.buckets;
      }

  pub want_kept : (e : Event) → Yes s e → (IsCrashOrLose e → whole s ≡ true) → WantInvariant (rule s e).after (awaiting_by o (meaning e))
  unfolding meaning rule put_effect copy_effect savelog_effect map_effect send_effect deliver_effect drop_effect savemap_effect item_goes learn_effect reset_effect rise_effect view_effect fetch_effect ready_effect mend_effect
  want_kept (Event.put p i b d) y f = on (Event.put p i b d) y (kept_on (put_saves s p i b d)) w.buckets
  want_kept (Event.copy j) y f =
      on (Event.copy j) y (λ k t. copy_kept s (λ c. Kept c.member c.log k) j (λ log more. kept_on more k t))
      (copy_kept s (λ c. Wants (set_bricks s c) o) j (λ _ _. w.buckets))
  want_kept (Event.savelog i) y f = on (Event.savelog i) y (kept_on (savelog_saves s i)) w.buckets
  want_kept (Event.map p b) y f =
      on (Event.map p b) y (λ k t. either (λ (c : State). KeptBy c k) (bucket_at s b).ready (λ _. t) (λ _. t)) (map_wants s o w.buckets p b y)
  want_kept (Event.send b) y f = on (Event.send b) y (λ k t. t) (send_wants s o w.buckets h v z b y)
  want_kept (Event.deliver n) y f =
      on (Event.deliver n) y (λ k t. either (λ (c : State). KeptBy c k) (is_taken s n) (λ _. t) (λ _. t)) (deliver_wants s o w.buckets h v z n y)
  want_kept (Event.drop n) y f = on (Event.drop n) y (λ k t. t) (fewer_wants s o w.buckets n)
  want_kept (Event.savemap i) y f = on (Event.savemap i) y (λ k t. t) (λ g l. let u = w.buckets g l in record { pair = u.pair; matches_backup = u.matches_backup })
  want_kept (Event.done p b) y f = on (Event.done p b) y (λ k t. t) w.buckets
  want_kept (Event.get p b) y f = w
  want_kept (Event.abandon p b) y f = on (Event.abandon p b) y (λ k t. t) w.buckets
  want_kept (Event.learn p) y f = on (Event.learn p) y (λ k t. t) w.buckets
  want_kept (Event.reset p) y f = on (Event.reset p) y (λ k t. t) w.buckets
  want_kept (Event.crash i) y f = crash_want s h v z o w (f (inl (i, refl))) i y
  want_kept (Event.lose i) y f = lose_want s h v z o w (f (inr (i, refl))) i y
  want_kept (Event.rise i) y f = on (Event.rise i) y (λ k t. t) w.buckets
  want_kept (Event.join i) y f = join_want s z o w i y
  want_kept Event.view y f = on Event.view y (λ k. kept_by k (λ i m t. (z.bricks.member_up i m, t))) (view_wants s z o w.buckets)
  want_kept (Event.fetch g) y f = on (Event.fetch g) y (λ k t. t) (fetch_wants s z o w.buckets g y)
  want_kept (Event.ready g) y f = on (Event.ready g) y (λ k t. t) (ready_wants s z o w.buckets h v g y)
  want_kept (Event.mend i) y f = on (Event.mend i) y (kept_on (mend_saves s i)) w.buckets
  want_kept (Event.collect i) y f = collect_want i y
  want_kept Event.unknown y f = w

-- ---- format
abbrev Nothing : ℕ → Bool
Nothing g = false

pub format_want : (c : Settings) → Sound (format c) → WantInvariant (format c) Nothing
unfolding format
format_want c z = record {
  uses = format_uses c (KeptBy (format c)) (inl refl);
  buckets = λ g l.
      either (λ k. PairOk c.places k.primary k.backup → WantOf (format c) Nothing g k) (ltb g (buckets c))
      (λ _ t. first g _ _ t) (λ n. clash n (lt-ltb _ _ l)) (z.buckets_ok g l).pair l;
}
  where
    first : (g p b : ℕ) → PairOk c.places p b → WantOf (format c) Nothing g (first_bucket p b)
    first g p b t l =
        let one = in_first c.places p t.one_first t.one_born in
        let two = in_first c.places b t.two_first t.two_born in
        record {
          pair = record { tracked = λ y. impossible y; one = inl one; all = λ _ _. (one, two) };
          matches_backup = λ _ _ r m. absurd (Memᴰ.not-nil m.in_bag);
        }
