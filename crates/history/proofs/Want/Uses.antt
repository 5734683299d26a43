-- Every accepted event keeps what is asked of the keys in use, where map asks it of the item's key: no event uses a key anew but map.
use mathlib.Core.Path.{◌≡◌, refl, sym}
use mathlib.Core.List.Memᴰ
use mathlib.Core.List.{List, []}
use mathlib.Core.Bool.{Bool, false}
use mathlib.Core.Logic.{inl, inr}
use Prim.Native.Nat.{ℕ, suc, ◌<◌}
use native.Mathlib.Omega.{arith}
use lib.Dec.{ltb}
use borrow.Author.Tests.{ltb-true, lt-ltb, not-true}
use Rattle.lists.specs.Columns.{upd}
use Rattle.lists.proofs.Tests.{by_eq, either, clash, only_in}
use Rattle.lists.proofs.Columns.{upd_all}
use Rattle.rules.specs.declared.settings.Settings.{Settings}
use Rattle.rules.specs.Limits.{buckets}
use Rattle.rules.specs.Entries.{Entry, key_for}
use Rattle.rules.specs.Event.{Event}
use Rattle.rules.specs.State.{State, Bricks, Bucket, Relay, set_bricks, set_bag}
use Rattle.rules.specs.Format.{first_bucket, format}
use Rattle.rules.specs.Derived.{bucket_no, bucket_at, item}
use Rattle.rules.specs.Writes.{put_effect, nothing_to_copy, copy_effect, savelog_effect}
use Rattle.rules.specs.Maps.{map_effect, send_effect, relay_at, relay_bucket, is_taken, remove_at, deliver_effect, drop_effect, savemap_effect}
use Rattle.rules.specs.Maps.{item_goes, learn_effect, reset_effect}
use Rattle.rules.specs.Membership.{crash_effect, lose_effect, rise_effect, join_effect}
use Rattle.rules.specs.Views.{view_effect, fetch_effect, ready_effect}
use Rattle.rules.specs.Upkeep.{mend_effect, collect_effect}
use Rattle.rules.specs.Step.{rule}
use Rattle.rules.proofs.Step.{Yes}
use Rattle.rules.proofs.Derived.{bucket_below}
use Rattle.rules.proofs.Sound.{Sound}
use Rattle.history.specs.Claim.{History}
use Rattle.history.proofs.Copies.{relied_anew, relied_before, in_drain, copies_map, copies_insert, copies_saved, copies_crashed, copies_blank}
use Rattle.history.proofs.Copies.{copies_fetched, copies_ready, primary_relied}
use Rattle.history.proofs.Facts.{brick_here, joined_relied, lost_relied, emptied}
use Rattle.history.proofs.AgeingInvariant.{InBag, AgeingInvariant}
use Rattle.history.proofs.WantInvariant.{BucketUse, InUse, Uses}
use Rattle.history.proofs.Ageing.Maps.{waits_now}
use Rattle.history.proofs.Ageing.Relays.{still_in_bag, send_member, send_ready, sent_in_bag, is_in_bag, it_is_new}
use Rattle.history.proofs.Ageing.Views.{source_relied, ready_relied, old_relay, still, waits_yet}

-- what is asked of keys may be weakened
pub uses_map : {K L : ℕ → Type 0} {count : ℕ} {present : ℕ → Bool} {bag : List Relay} {view : ℕ} {buffer : ℕ → List Entry} {bucket : ℕ → Bucket}
    → ((j : ℕ) → K j → L j) → InUse K count present bag view buffer bucket → InUse L count present bag view buffer bucket
uses_map f u = record {
  waiting = λ i e m. f _ (u.waiting i e m);
  buckets = λ g l. let t = u.buckets g l in record { copies = copies_map _ _ (λ _. f) (λ _ r. r) t.copies; live_kept = λ r m n. f _ (t.live_kept r m n) };
}

-- fewer relays of a bucket
use_fewer : {K : ℕ → Type 0} {present : ℕ → Bool} {bag bag' : List Relay} {view g : ℕ} {k : Bucket}
    → ((r : Relay) → InBag g view bag' r → InBag g view bag r) → BucketUse K present bag view g k → BucketUse K present bag' view g k
use_fewer was t = record { copies = t.copies; live_kept = λ r m. t.live_kept r (was r m) }

module _ (K : ℕ → Type 0) (s : State) (u : Uses K s) where
  abbrev UseOf : ℕ → Bucket → Type 0
  UseOf g k = g < buckets s.settings → BucketUse K s.bricks.present s.bag s.view g k

  copy_uses : (k : ℕ) → Uses K (rule s (Event.copy k)).after
  unfolding rule copy_effect
  copy_uses k = either (λ (c : Bricks). Uses K (set_bricks s c)) (nothing_to_copy s k) (λ _. u) (λ _. u)

  savemap_uses : (i : ℕ) → Uses K (rule s (Event.savemap i)).after
  unfolding rule savemap_effect
  savemap_uses i = record {
    waiting = u.waiting;
    buckets = λ g l. let t = u.buckets g l in record { copies = copies_saved _ t.copies (s.ids i); live_kept = t.live_kept };
  }

  fewer_uses : (n : ℕ) → Uses K (set_bag s (remove_at s.bag n))
  fewer_uses n = record { waiting = u.waiting; buckets = λ g l. use_fewer (λ r. still_in_bag s.bag n) (u.buckets g l) }

  -- ---- membership
  pub crash_uses : (i : ℕ) → Uses K (rule s (Event.crash i)).after
  unfolding rule crash_effect
  crash_uses i = record {
    waiting = λ j e m. u.waiting j e (emptied s.bricks.buffer (s.ids i) j e m);
    buckets = λ g l. let t = u.buckets g l in record { copies = copies_crashed _ t.copies (s.ids i); live_kept = t.live_kept };
  }

  pub lose_uses : (i : ℕ) → Uses K (rule s (Event.lose i)).after
  unfolding rule lose_effect
  lose_uses i = record {
    waiting = λ j e m. u.waiting j e (emptied s.bricks.buffer (s.ids i) j e m);
    buckets = λ g l.
        let t = u.buckets g l in record { copies = copies_blank _ t.copies (s.ids i) (lost_relied s (s.ids i) (s.bucket g)); live_kept = t.live_kept };
  }

  pub join_uses : Sound s → (i : ℕ) → Uses K (rule s (Event.join i)).after
  unfolding rule join_effect
  join_uses z i = record {
    waiting = λ j e m. u.waiting j e (emptied s.bricks.buffer (suc s.given) j e m);
    buckets = λ g l. let t = u.buckets g l in record { copies = copies_blank _ t.copies (suc s.given) (joined_relied s z g l); live_kept = t.live_kept };
  }

  module _ (h : History) (v : AgeingInvariant s h) where
    view_uses : Uses K (rule s Event.view).after
    unfolding rule view_effect
    view_uses = record {
      waiting = λ i e m. absurd (Memᴰ.not-nil m);
      buckets = λ g l. record {
        copies = copies_map _ _ (λ _ _ p. p) (λ i. relied_anew _ _ _) (u.buckets g l).copies;
        live_kept = λ r m. absurd (old_relay s h v g r m);
      };
    }

    module _ (z : Sound s) where
      -- ---- map: the item's key comes into use
      map_uses : (p b : ℕ) → Yes s (Event.map p b) → K (item s p b) → Uses K (rule s (Event.map p b)).after
      unfolding rule map_effect
      map_uses p b y new =
          let k = bucket_at s b in
          either (λ (t : State). Uses K t) k.ready
          (λ _. record {
            waiting = u.waiting;
            buckets = upd_all UseOf s.bucket (bucket_no s b) _ u.buckets (λ l.
                let t = u.buckets (bucket_no s b) l in
                record { copies = copies_insert _ t.copies k.primary b (item s p b) new; live_kept = t.live_kept });
          })
          (λ _. record {
            waiting = λ i e m. elim (waits_now s h v z p b y i e m) [ inl n ↦ u.waiting i e n | inr n ↦ rw n.0 new ];
            buckets = u.buckets;
          })

      -- ---- relays
      send_uses : (b : ℕ) → Yes s (Event.send b) → Uses K (rule s (Event.send b)).after
      unfolding rule send_effect upd
      send_uses b y =
          let g = bucket_no s b in
          let k = bucket_at s b in
          let same = (v.buckets g (bucket_below s.settings b)).same (send_ready s h v z b y) in
          record {
            waiting = u.waiting;
            buckets = λ j. by_eq j g
                (λ q e. rw (q, e) (λ l.
                let t = u.buckets g l in
                record {
                  copies = t.copies;
                  live_kept = λ r m n. elim (sent_in_bag s h v z b y g r m) [
                    | inl o ↦ t.live_kept r o n
                    | inr o ↦ rw o.0 (t.copies.memory k.primary (primary_relied k same (brick_here s z _ (send_member s h v z b y))) b)
                  ];
                }))
                (λ q e. rw q (λ l. use_fewer (λ r m. elim (sent_in_bag s h v z b y j r m) [ inl o ↦ o | inr o ↦ absurd (e (sym o.1)) ]) (u.buckets j l)));
          }

      deliver_uses : (n : ℕ) → Yes s (Event.deliver n) → Uses K (rule s (Event.deliver n)).after
      unfolding rule deliver_effect
      deliver_uses n y =
          let a = relay_at s n in
          let k = relay_bucket s n in
          let less = fewer_uses n in
          either (λ (t : State). Uses K t) (is_taken s n)
          (λ due. record {
            waiting = u.waiting;
            buckets = upd_all (λ g j. g < buckets s.settings → BucketUse K s.bricks.present (remove_at s.bag n) s.view g j) s.bucket a.bucket _
                less.buckets (λ l.
                let t = u.buckets a.bucket l in
                let new = it_is_new s h v z n y due in
                record {
                  copies = copies_insert _ t.copies k.backup a.block a.key (t.live_kept a (is_in_bag s h v z n y due) new);
                  live_kept = λ r m o. t.live_kept r (still_in_bag s.bag n m) (omega (arith, new, o));
                });
          })
          (λ _. less)

      -- ---- a new view's buckets
      fetch_uses : (g : ℕ) → Yes s (Event.fetch g) → Uses K (rule s (Event.fetch g)).after
      unfolding rule fetch_effect
      fetch_uses g y =
          let k = s.bucket g in
          record {
            waiting = u.waiting;
            buckets = upd_all UseOf s.bucket g _ u.buckets (λ l.
                let t = u.buckets g l in
                record {
                  copies = copies_fetched _ t.copies k.primary _ (t.copies.memory _ (source_relied s z g (search))) (λ i. relied_before k.primary _);
                  live_kept = t.live_kept;
                });
          }

      ready_uses : (g : ℕ) → Yes s (Event.ready g) → Uses K (rule s (Event.ready g)).after
      unfolding rule ready_effect
      ready_uses g y =
          let k = s.bucket g in
          let unready : k.ready ≡ false = search not-true in
          let relied = ready_relied s z g y in
          let l : g < buckets s.settings = search ltb-true in
          record {
            waiting = λ i e m. u.waiting i e (waits_yet s h v z g l i e m).0;
            buckets = upd_all UseOf s.bucket g _ u.buckets (λ l.
                let t = u.buckets g l in
                let apart : k.backup ≡ k.primary → ⊥ = λ e. (z.buckets_ok g l).pair.apart (sym e) in
                let top = t.copies.memory k.primary relied in
                let drained = in_drain (λ _. K) s.settings.entries _ (k.memory k.primary) top (λ e m. u.waiting k.primary e (only_in _ _ m).0) in
                record {
                  copies = copies_ready _ _ k.primary k.backup _ _ _ _ _ _ apart top drained (t.copies.disk _ relied);
                  live_kept = λ r m. absurd (still s h v z g l unready r m);
                });
          }

      -- ---- every event
      pub uses_kept : (e : Event) → Yes s e → ((p b : ℕ) → e ≡ Event.map p b → K (item s p b)) → Uses K (rule s e).after
      unfolding rule put_effect savelog_effect drop_effect item_goes learn_effect reset_effect rise_effect mend_effect collect_effect
      uses_kept (Event.put p i b d) y f = u
      uses_kept (Event.copy k) y f = copy_uses k
      uses_kept (Event.savelog i) y f = u
      uses_kept (Event.map p b) y f = map_uses p b y (f p b refl)
      uses_kept (Event.send b) y f = send_uses b y
      uses_kept (Event.deliver n) y f = deliver_uses n y
      uses_kept (Event.drop n) y f = fewer_uses n
      uses_kept (Event.savemap i) y f = savemap_uses i
      uses_kept (Event.done p b) y f = u
      uses_kept (Event.get p b) y f = u
      uses_kept (Event.abandon p b) y f = u
      uses_kept (Event.learn p) y f = u
      uses_kept (Event.reset p) y f = u
      uses_kept (Event.crash i) y f = crash_uses i
      uses_kept (Event.lose i) y f = lose_uses i
      uses_kept (Event.rise i) y f = u
      uses_kept (Event.join i) y f = join_uses z i
      uses_kept Event.view y f = view_uses
      uses_kept (Event.fetch g) y f = fetch_uses g y
      uses_kept (Event.ready g) y f = ready_uses g y
      uses_kept (Event.mend i) y f = u
      uses_kept (Event.collect i) y f = u
      uses_kept Event.unknown y f = u

-- ---- format: nothing is in use
pub format_uses : (c : Settings) (K : ℕ → Type 0) → K 0 → Uses K (format c)
unfolding format
format_uses c K none = record {
  waiting = λ i e m. absurd (Memᴰ.not-nil m);
  buckets = λ g l. either (λ k. BucketUse K (format c).bricks.present [] 1 g k) (ltb g (buckets c)) (λ _. first g _ _) (λ n. clash n (lt-ltb _ _ l));
}
  where
    first : (g p b : ℕ) → BucketUse K (format c).bricks.present [] 1 g (first_bucket p b)
    first g p b = record {
      copies = record { memory = λ i r b. unfold key_for in none; disk = λ i r b. unfold key_for in none };
      live_kept = λ r m. absurd (Memᴰ.not-nil m.in_bag);
    }
