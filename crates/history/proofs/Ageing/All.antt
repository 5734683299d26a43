-- Every accepted event keeps the invariant of the ageing rule, and format begins it.
use mathlib.Core.Path.{refl}
use mathlib.Core.List.Memᴰ
use mathlib.Core.List.{[]}
use mathlib.Core.Logic.{inl}
use Prim.Native.Nat.{ℕ}
use native.Mathlib.Omega.{arith}
use lib.Dec.{ltb}
use borrow.Author.Tests.{lt-ltb}
use Rattle.lists.proofs.Tests.{either, clash}
use Rattle.rules.specs.declared.settings.Settings.{Settings}
use Rattle.rules.specs.Limits.{buckets}
use Rattle.rules.specs.Entries.{key_for}
use Rattle.rules.specs.Event.{Event}
use Rattle.rules.specs.State.{State, Relay}
use Rattle.rules.specs.Format.{first_bucket, format}
use Rattle.rules.specs.Step.{rule}
use Rattle.rules.proofs.Step.{Yes}
use Rattle.rules.proofs.Sound.{Sound}
use Rattle.history.specs.Claim.{History, no_history, number, meaning, record_event}
use Rattle.history.proofs.AgeingInvariant.{InBag, BucketAge, AgeOf, AgeingInvariant}
use Rattle.history.proofs.Ageing.Writes.{copy_ageing, savelog_ageing}
use Rattle.history.proofs.Ageing.Put.{put_ageing}
use Rattle.history.proofs.Ageing.Maps.{map_ageing, savemap_ageing, item_goes_ageing, learn_ageing, reset_ageing}
use Rattle.history.proofs.Ageing.Relays.{send_ageing, deliver_ageing, drop_ageing}
use Rattle.history.proofs.Ageing.Reads.{done_ageing, get_ageing}
use Rattle.history.proofs.Ageing.Membership.{crash_ageing, lose_ageing, rise_ageing, join_ageing}
use Rattle.history.proofs.Ageing.Views.{view_ageing, fetch_ageing, ready_ageing}
use Rattle.history.proofs.Ageing.Upkeep.{mend_ageing, collect_ageing}

pub ageing_kept : (s : State) (h : History) (e : Event) → AgeingInvariant s h → Sound s → Yes s e → Sound (rule s e).after
    → AgeingInvariant (rule s e).after (record_event h (meaning e) (rule s e).said)
unfolding meaning
ageing_kept s h (Event.put p i b d) v o y o' = put_ageing s h v o p i b d y o'
ageing_kept s h (Event.copy k) v o y o' = copy_ageing s h v k y
ageing_kept s h (Event.savelog i) v o y o' = savelog_ageing s h v i
ageing_kept s h (Event.map p b) v o y o' = map_ageing s h v o p b y
ageing_kept s h (Event.send b) v o y o' = send_ageing s h v o b y
ageing_kept s h (Event.deliver n) v o y o' = deliver_ageing s h v o n y
ageing_kept s h (Event.drop n) v o y o' = drop_ageing s h v n
ageing_kept s h (Event.savemap i) v o y o' = savemap_ageing s h v i
ageing_kept s h (Event.done p b) v o y o' = done_ageing s h v p b (rule s (Event.done p b)).said y
ageing_kept s h (Event.get p b) v o y o' = get_ageing s h v p b y
ageing_kept s h (Event.abandon p b) v o y o' = unfold rule in item_goes_ageing s h v p b
ageing_kept s h (Event.learn p) v o y o' = learn_ageing s h v p
ageing_kept s h (Event.reset p) v o y o' = reset_ageing s h v p
ageing_kept s h (Event.crash i) v o y o' = crash_ageing s h v o i
ageing_kept s h (Event.lose i) v o y o' = lose_ageing s h v i
ageing_kept s h (Event.rise i) v o y o' = rise_ageing s h v i
ageing_kept s h (Event.join i) v o y o' = join_ageing s h v o i
ageing_kept s h Event.view v o y o' = view_ageing s h v
ageing_kept s h (Event.fetch g) v o y o' = fetch_ageing s h v o g y
ageing_kept s h (Event.ready g) v o y o' = ready_ageing s h v o g y
ageing_kept s h (Event.mend i) v o y o' = mend_ageing s h v i
ageing_kept s h (Event.collect i) v o y o' = collect_ageing s h v i
ageing_kept s h Event.unknown v o y o' = unfold rule in v

-- ---- format
pub format_ageing : (c : Settings) → AgeingInvariant (format c) no_history
unfolding format number key_for
format_ageing c = record {
  keys = λ b k z. absurd (omega arith);
  marked = λ b. omega arith;
  items = λ p e m. absurd (Memᴰ.not-nil m);
  logs = λ i e m. absurd (Memᴰ.not-nil m);
  relays = λ r m. absurd (Memᴰ.not-nil m);
  buckets = λ g z. either (λ k. AgeOf (format c) no_history g k) (ltb g (buckets c)) (λ _ _. first g _ _) (λ n. clash n (lt-ltb _ _ z)) z;
}
  where
    none : {g view : ℕ} (r : Relay) → InBag g view [] r → ⊥
    none r m = Memᴰ.not-nil m.in_bag

    first : (g p b : ℕ) → BucketAge (λ b. []) (λ b. 0) (buckets c) 1 [] (λ i. []) (format c).bricks.present (format c).bricks.member g (first_bucket p b)
    first g p b = record {
      same = λ _. record { one = refl; two = refl };
      copies = record {
        memory = λ i r b. record { known = inl refl; floor = λ _. omega arith; waits = λ i e m. absurd (Memᴰ.not-nil m) };
        disk = λ i r b. record { known = inl refl; floor = λ _. omega arith; waits = λ i e m. absurd (Memᴰ.not-nil m) };
      };
      waiting = λ i e m. absurd (Memᴰ.not-nil m);
      queue = record { ordered = λ r m. absurd (none r m); while_ready = λ r m. refl; sorted = λ r t m. absurd (none r m) };
      flight = record {
        behind = λ r m. absurd (none r m);
        disk_behind = λ _ b. omega arith;
        leads = λ z r m. absurd (none r m);
        ahead = λ _ _ b. omega arith;
      };
    }
