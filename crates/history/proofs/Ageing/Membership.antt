-- crash, lose, rise and join keep the invariant of the ageing rule.
use mathlib.Core.Path.{◌≡◌}
use mathlib.Core.List.Memᴰ
use mathlib.Core.List.{List, [], Memᴰ}
use mathlib.Core.Bool.{Bool, true, false}
use Prim.Native.Nat.{ℕ, suc, ◌<◌}
use native.Mathlib.Omega.{arith}
use lib.Dec.{eqb}
use Rattle.lists.specs.Columns.{upd}
use Rattle.lists.proofs.Tests.{by, by_eq, only_in}
use Rattle.lists.proofs.Columns.{upd_other, upd_all, unflag}
use Rattle.rules.specs.Limits.{buckets}
use Rattle.rules.specs.Entries.{Entry, key_for}
use Rattle.rules.specs.Chunks.{Chunk, only_saved}
use Rattle.rules.specs.Event.{Event}
use Rattle.rules.specs.State.{State, Relay}
use Rattle.rules.specs.Membership.{crashed_bucket, crash_effect, blanked_copies, lose_effect, rise_effect, join_effect}
use Rattle.rules.specs.Step.{rule}
use Rattle.rules.proofs.Sound.{Sound, key_stays}
use Rattle.history.specs.Claim.{History}
use Rattle.history.proofs.Copies.{ReliedOn, copies_map, copies_crashed, copies_blank}
use Rattle.history.proofs.Sound.Groups.{next_grows}
use Rattle.history.proofs.Facts.{not_joined, joined_here, joined_relied, lost_relied, zero_number, readable_fewer, emptied}
use Rattle.history.proofs.AgeingInvariant.{Writes, Older, BytesOfWrite, Queue, Flight, BucketAge, AgeingInvariant}

-- a brick that is no member any more, and whose memory shows no later writes
module _ {w : Writes} {g : ℕ} {memory disk : ℕ → List Entry} {member : ℕ → Bool} {bag : List Relay} {view order taken primary backup : ℕ} {ready : Bool} where
  flight_after_failure : (x : ℕ) (memory' disk' : ℕ → List Entry) → ((i : ℕ) → (i ≡ x → ⊥) → memory' i ≡ memory i)
      → (ready ≡ true → (b : ℕ) → Older w b (key_for (memory' backup) b) (key_for (memory backup) b))
      → (ready ≡ true → (b : ℕ) → Older w b (key_for (disk' backup) b) (key_for (memory' backup) b))
      → Queue w g bag view order ready → Flight w g memory disk member bag view taken primary backup ready
      → Flight w g memory' disk' (upd member x false) bag view taken primary backup ready
  flight_after_failure x memory' disk' others lower disk_lower q f = record {
    behind = λ r m t. omega (arith, f.behind r m t, lower (q.while_ready r m) r.block);
    disk_behind = disk_lower;
    leads = λ y r m. let z = unflag member x primary y in rw (others primary z.1) (f.leads z.0 r m);
    ahead = λ y u b. let z = unflag member x primary u in rw (others primary z.1) (omega (arith, f.ahead y z.0 b, lower y b));
  }

module _ (s : State) (h : History) (v : AgeingInvariant s h) where
  -- ---- rise
  pub rise_ageing : (i : ℕ) → AgeingInvariant (rule s (Event.rise i)).after h
  unfolding rule rise_effect
  rise_ageing i = search

  -- ---- crash
  crashed : (x g : ℕ) → g < buckets s.settings
      → BucketAge h.writes h.mark (buckets s.settings) s.view s.bag (upd s.bricks.buffer x []) s.bricks.present
      (upd s.bricks.member x false) g (crashed_bucket x (s.bucket g))
  unfolding upd
  crashed x g z =
      let k = s.bucket g in
      let u = v.buckets g z in
      let less = emptied s.bricks.buffer x in
      record {
        same = u.same;
        copies = copies_map _ _ (readable_fewer less) (λ _ r. r) (copies_crashed _ u.copies x);
        waiting = λ i e m. u.waiting i e (less i e m);
        queue = u.queue;
        flight = flight_after_failure x _ _ (λ i. upd_other k.memory x i (k.disk x))
            (λ y b. by_eq k.backup x (λ q e. rw (q, ← e) (u.flight.disk_behind y b)) (λ q _. rw q (omega arith)))
            (λ y b. by_eq k.backup x (λ q e. rw (q, e) (omega arith)) (λ q _. rw q (u.flight.disk_behind y b))) u.queue u.flight;
      }

  abbrev HonestIn : ℕ → List Chunk → Type 0
  HonestIn _ l = (c : Chunk) → Memᴰ c l → BytesOfWrite h.writes c.key c.bytes

  pub crash_ageing : Sound s → (i : ℕ) → AgeingInvariant (rule s (Event.crash i)).after h
  unfolding rule crash_effect only_saved
  crash_ageing o i =
      let x = s.ids i in
      record {
        keys = λ b k y. next_grows x _ (o.numbers.below x) (v.keys b k y);
        marked = v.marked;
        items = v.items;
        logs = upd_all HonestIn s.bricks.log x _ v.logs (λ c m. v.logs x c (only_in _ _ m).0);
        relays = v.relays;
        buckets = crashed x;
      }

  -- ---- a brick blank in every bucket: one that is lost, or one that joins
  blank : (x : ℕ) (present' : ℕ → Bool) (g : ℕ) → g < buckets s.settings
      → ((i : ℕ) → ReliedOn present' (s.bucket g) i → ReliedOn s.bricks.present (s.bucket g) i × (i ≡ x → ⊥))
      → BucketAge h.writes h.mark (buckets s.settings) s.view s.bag (upd s.bricks.buffer x []) present'
      (upd s.bricks.member x false) g (blanked_copies x (s.bucket g))
  unfolding upd key_for
  blank x present' g z still =
      let k = s.bucket g in
      let u = v.buckets g z in
      let less = emptied s.bricks.buffer x in
      record {
        same = u.same;
        copies = copies_map _ _ (readable_fewer less) (λ _ r. r) (copies_blank _ u.copies x still);
        waiting = λ i e m. u.waiting i e (less i e m);
        queue = u.queue;
        flight = flight_after_failure x _ _ (λ i. upd_other k.memory x i [])
            (λ y b. by (eqb k.backup x) (λ q. rw q (omega (arith, zero_number s h v b))) (λ q. rw q (omega arith)))
            (λ y b. by (eqb k.backup x) (λ q. rw q (omega arith)) (λ q. rw q (u.flight.disk_behind y b))) u.queue u.flight;
      }

  no_log : (x i : ℕ) → HonestIn i (upd s.bricks.log x [] i)
  no_log x = upd_all HonestIn s.bricks.log x [] v.logs (λ c m. absurd (Memᴰ.not-nil m))

  pub lose_ageing : (i : ℕ) → AgeingInvariant (rule s (Event.lose i)).after h
  unfolding rule lose_effect
  lose_ageing i =
      let x = s.ids i in
      record {
        keys = λ b k y. key_stays k (omega arith)
            (λ j _ t. let u = unflag s.bricks.present x j t in (u.0, rw (upd_other s.bricks.next x j 0 u.1) (omega arith))) (v.keys b k y);
        marked = v.marked;
        items = v.items;
        logs = no_log x;
        relays = v.relays;
        buckets = λ g z. blank x _ g z (lost_relied s x (s.bucket g));
      }

  pub join_ageing : Sound s → (i : ℕ) → AgeingInvariant (rule s (Event.join i)).after h
  unfolding rule join_effect
  join_ageing o i =
      let x = suc s.given in
      record {
        keys = λ b k y. key_stays k (omega arith)
            (λ j l t. (joined_here s j l t, rw (upd_other s.bricks.next x j 0 (not_joined s j l)) (omega arith))) (v.keys b k y);
        marked = v.marked;
        items = v.items;
        logs = no_log x;
        relays = v.relays;
        buckets = λ g z. blank x _ g z (joined_relied s o g z);
      }
