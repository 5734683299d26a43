-- map, send, deliver and drop keep what the claim on want asks of pairs and relays.
use mathlib.Core.Path.{◌≡◌, sym, ◌∙◌}
use mathlib.Core.List.{List}
use mathlib.Core.Bool.{Bool, true}
use mathlib.Core.Logic.{inl, inr}
use Prim.Native.Nat.{ℕ}
use native.Mathlib.Omega.{arith}
use Rattle.lists.specs.Columns.{upd}
use Rattle.lists.proofs.Tests.{by_eq, either, clash, and_r}
use Rattle.lists.proofs.Columns.{upd_same, upd_all}
use Rattle.rules.specs.Entries.{insert}
use Rattle.rules.specs.Event.{Event}
use Rattle.rules.specs.State.{State, Bucket, Relay, set_bag, with_taken}
use Rattle.rules.specs.Derived.{bucket_no, bucket_at}
use Rattle.rules.specs.Maps.{map_effect, send_effect, relay_at, relay_bucket, is_taken, remove_at, deliver_effect}
use Rattle.rules.specs.Step.{rule}
use Rattle.rules.proofs.Step.{Yes}
use Rattle.rules.proofs.Entries.{key_for_insert}
use Rattle.rules.proofs.Sound.{Sound}
use Rattle.history.specs.Claim.{History}
use Rattle.history.proofs.AgeingInvariant.{InBag, AgeingInvariant}
use Rattle.history.proofs.WantInvariant.{BucketWant, WantOf, Wants}
use Rattle.history.proofs.Ageing.Relays.{still_in_bag, send_member, sent_in_bag, is_in_bag, it_is_new}

-- fewer relays of a bucket
bucket_fewer : {places : ℕ} {ids : ℕ → ℕ} {member : ℕ → Bool} {bag bag' : List Relay} {view : ℕ} {is_open : Bool} {g : ℕ} {k : Bucket}
    → ((r : Relay) → InBag g view bag' r → InBag g view bag r)
    → BucketWant places ids member bag view is_open g k → BucketWant places ids member bag' view is_open g k
bucket_fewer was u = record { pair = u.pair; matches_backup = λ y n r m. u.matches_backup y n r (was r m) }

module _ (s : State) (o : ℕ → Bool) (w : Wants s o) where
  pub map_wants : (p b : ℕ) → Yes s (Event.map p b) → Wants (rule s (Event.map p b)).after o
  unfolding rule map_effect
  map_wants p b y =
      let member : s.bricks.member (bucket_at s b).primary ≡ true = search and_r in
      either (λ (t : State). Wants t o) (bucket_at s b).ready
      (λ _. upd_all (WantOf s o) s.bucket (bucket_no s b) _ w (λ l. record { pair = (w (bucket_no s b) l).pair; matches_backup = λ _ n. clash n member }))
      (λ _. w)

  pub fewer_wants : (n : ℕ) → Wants (set_bag s (remove_at s.bag n)) o
  fewer_wants n g l = bucket_fewer (λ r. still_in_bag s.bag n) (w g l)

  module _ (h : History) (v : AgeingInvariant s h) (z : Sound s) where
    pub send_wants : (b : ℕ) → Yes s (Event.send b) → Wants (rule s (Event.send b)).after o
    unfolding rule send_effect upd
    send_wants b y j =
        let g = bucket_no s b in
        by_eq j g
        (λ q e. rw (q, e) (λ l. record { pair = (w g l).pair; matches_backup = λ _ n. clash n (send_member s h v z b y) }))
        (λ q e. rw q (λ l. bucket_fewer (λ r m. elim (sent_in_bag s h v z b y j r m) [ inl n ↦ n | inr n ↦ absurd (e (sym n.1)) ]) (w j l)))

    taken : (n : ℕ) (y : Yes s (Event.deliver n)) → is_taken s n ≡ true
        → let r = relay_at s n in
        let k = relay_bucket s n in
        WantOf (set_bag s (remove_at s.bag n)) o r.bucket
        (with_taken k r.order (upd k.memory k.backup (insert (k.memory k.backup) r.block r.key)))
    taken n y due l =
        let a = relay_at s n in
        let k = relay_bucket s n in
        let u = w a.bucket l in
        let new = it_is_new s h v z n y due in
        let put = insert (k.memory k.backup) a.block a.key in
        record {
          pair = u.pair;
          matches_backup = λ q c r m t.
              let old = u.matches_backup q c r (still_in_bag s.bag n m) (omega (arith, new, t)) in
              rw (upd_same k.memory k.backup put, key_for_insert (k.memory k.backup) a.block a.key r.block)
              (unfold upd in by_eq r.block a.block (λ e d. rw e (old ∙ rw d (sym (u.matches_backup q c a (is_in_bag s h v z n y due) new)))) (λ e _. rw e old));
        }

    pub deliver_wants : (n : ℕ) → Yes s (Event.deliver n) → Wants (rule s (Event.deliver n)).after o
    unfolding rule deliver_effect
    deliver_wants n y =
        let less = fewer_wants n in
        either (λ (t : State). Wants t o) (is_taken s n)
        (λ due. upd_all (WantOf (set_bag s (remove_at s.bag n)) o) s.bucket (relay_at s n).bucket _ less (taken n y due)) (λ _. less)
