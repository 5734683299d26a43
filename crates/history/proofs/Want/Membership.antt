-- crash, lose and join keep the invariant of the claim on want; a crash and a loss where they find a whole store.
use mathlib.Core.Path.{◌≡◌, refl, sym, ◌∙◌}
use mathlib.Core.List.{List, [], Memᴰ}
use mathlib.Core.Bool.{Bool, true, false}
use mathlib.Core.Logic.{inl, inr}
use Prim.Native.Nat.{ℕ, suc, ◌<◌}
use native.Mathlib.Omega.{arith}
use borrow.Author.Tests.{ltb-true}
use Rattle.lists.specs.Tests.{every}
use Rattle.lists.specs.Columns.{upd}
use Rattle.lists.proofs.Tests.{by, by_eq, clash, and_l, and_r, all_at, every_in}
use Rattle.lists.proofs.Columns.{upd_same, upd_other, unflag, still_flagged}
use Rattle.rules.specs.Limits.{buckets}
use Rattle.rules.specs.Entries.{Entry, key_for, has}
use Rattle.rules.specs.Chunks.{Chunk}
use Rattle.rules.specs.Event.{Event}
use Rattle.rules.specs.State.{State, Bucket, with_copies}
use Rattle.rules.specs.Derived.{saved_twice, primary_memory, nothing_pending}
use Rattle.rules.specs.Membership.{crash_effect, lose_effect, join_effect}
use Rattle.rules.specs.Whole.{whole}
use Rattle.rules.specs.Step.{rule}
use Rattle.rules.proofs.Step.{Yes}
use Rattle.rules.proofs.Derived.{agree_all}
use Rattle.rules.proofs.Entries.{has_entry, no_entry}
use Rattle.rules.proofs.Sound.{Sound}
use Rattle.history.specs.Claim.{History}
use Rattle.history.proofs.Facts.{present_born, brick_here, not_joined}
use Rattle.history.proofs.AgeingInvariant.{AgeingInvariant}
use Rattle.history.proofs.WantInvariant.{Kept, KeptBy, Uses, Full, all_full, PairWant, BucketWant, WantInvariant}
use Rattle.history.proofs.Want.Uses.{uses_map, crash_uses, lose_uses, join_uses}
use Rattle.history.proofs.Want.Saved.{kept_by, twice_kept}
use Rattle.history.proofs.Want.NothingPending.{Settled, Follows, wants_follow, settled, uses_mapped}

-- ---- a crash or loss that finds a whole store
module _ (s : State) (h : History) (v : AgeingInvariant s h) (z : Sound s) (o : ℕ → Bool) (w : WantInvariant s o) (was : whole s ≡ true) where
  nothing_pending_in : (g : ℕ) → g < buckets s.settings → nothing_pending (s.bucket g) ≡ true
  unfolding whole
  nothing_pending_in = all_at _ _ (and_r _ _ (and_l _ _ was))

  follows : (g : ℕ) → g < buckets s.settings → (s.bucket g).ready ≡ true → Follows s g (s.bucket g)
  follows = wants_follow s o w.buckets

  settled_in : (g : ℕ) → g < buckets s.settings → Settled s g (s.bucket g)
  settled_in = settled s h v nothing_pending_in follows

  full : Full s.settings.places s.ids s.bricks.member
  unfolding whole
  full = all_full s (and_l _ _ (and_l _ _ was))

  twice : (g : ℕ) → g < buckets s.settings → (e : Entry) → Memᴰ e (primary_memory (s.bucket g)) → saved_twice s e.key ≡ true
  unfolding whole
  twice g l e m =
      let t = all_at (buckets s.settings) (λ j. every (λ a. saved_twice s a.key) (primary_memory (s.bucket j))) (and_r _ _ was) g l in
      every_in (λ (a : Entry). saved_twice s a.key) (primary_memory (s.bucket g)) t e m

  module _ (x : ℕ) where
    abbrev member' : ℕ → Bool
    member' = upd s.bricks.member x false

    -- without brick x every mapped key is kept
    kept_elsewhere : (l : List Chunk) (g : ℕ) → g < buckets s.settings → (b : ℕ)
        → Kept member' (upd s.bricks.log x l) (key_for (primary_memory (s.bucket g)) b)
    kept_elsewhere l g n b =
        by (has (primary_memory (s.bucket g)) b)
        (λ y.
        let e = has_entry (primary_memory (s.bucket g)) b y in
        let k = e.0.key in
        rw e.3 (kept_by k (λ i m t. (m, rw (upd_other s.bricks.log x i l (unflag s.bricks.member x i m).1) t))
        (twice_kept s k (twice g n e.0 e.1) x)))
        (λ n. inl (no_entry _ b n))

    -- so is every key in use
    uses_elsewhere : (l : List Chunk) → Uses (Kept member' (upd s.bricks.log x l)) s
    uses_elsewhere l = uses_mapped s h v nothing_pending_in follows (KeptBy s) w.uses _ (kept_elsewhere l)

    -- the last ready pair keeps a member, and place i holds none
    module _ (ids' : ℕ → ℕ) (i : ℕ) (inside : i < s.settings.places) (gone : member' (ids' i) ≡ true → ⊥) (g : ℕ) (l : g < buckets s.settings) where
      abbrev own : Bucket
      own = s.bucket g

      pair_after_failure : PairWant s.settings.places ids' member' own.last_primary own.last_backup own.ready (o g)
      pair_after_failure =
          let u = (w.buckets g l).pair in
          let t = u.all (settled_in g l).ready full in
          record {
            tracked = u.tracked;
            one = by_eq own.last_primary x
                (λ _ e. inr (still_flagged s.bricks.member x _ (λ f. (z.buckets_ok g l).last.apart (e ∙ sym f)) t.1))
                (λ _ n. inl (still_flagged s.bricks.member x _ n t.0));
            all = λ _ f. absurd (gone (f i inside));
          }

      -- where the primary crashes or is lost, the backup shows every mapped key
      bucket_after_failure : (memory' disk' : ℕ → List Entry)
          → ((b : ℕ) → member' own.primary ≡ false → key_for (memory' own.backup) b ≡ key_for (primary_memory own) b)
          → BucketWant s.settings.places ids' member' s.bag s.view (o g) g (with_copies own memory' disk')
      bucket_after_failure memory' disk' shows = record {
        pair = pair_after_failure;
        matches_backup = λ _ n r m t. (settled_in g l).live_kept r m t ∙ sym (shows r.block n);
      }

  pub crash_want : (i : ℕ) → Yes s (Event.crash i) → WantInvariant (rule s (Event.crash i)).after o
  unfolding rule crash_effect upd
  crash_want i y =
      let x = s.ids i in
      let gone : member' x x ≡ true → ⊥ = λ m. (unflag s.bricks.member x x m).1 refl in
      record {
        uses = crash_uses _ s (uses_elsewhere x _) i;
        buckets = λ g l.
            let k = s.bucket g in
            bucket_after_failure x s.ids i (search ltb-true) gone g l _ _ (λ b _.
            let agreed = agree_all k b ((settled_in g l).one_key b) in
            by_eq k.backup x (λ q e. rw (q, ← e) agreed.2) (λ q _. rw q agreed.1));
      }

  pub lose_want : (i : ℕ) → Yes s (Event.lose i) → WantInvariant (rule s (Event.lose i)).after o
  unfolding rule lose_effect
  lose_want i y =
      let x = s.ids i in
      record {
        uses = lose_uses _ s (uses_elsewhere x _) i;
        buckets = λ g l.
            let k = s.bucket g in
            let c = settled_in g l in
            bucket_after_failure x _ i (search ltb-true) (no_member x i) g l _ _ (λ b n.
            let primary = rw (← c.same.one) at ((w.buckets g l).pair.all c.ready full).0 in
            let lost : k.primary ≡ x = by_eq k.primary x (λ _ e. e) (λ _ d. clash n (still_flagged s.bricks.member x _ d primary)) in
            let apart : k.backup ≡ x → ⊥ = λ e. (z.buckets_ok g l).pair.apart (lost ∙ sym e) in
            rw (upd_other k.memory x k.backup [] apart) (agree_all k b (c.one_key b)).1);
      }
    where
      no_member : (x i : ℕ) → member' x (upd s.ids i 0 i) ≡ true → ⊥
      no_member x i m =
          let t = (unflag s.bricks.member x 0 (rw (upd_same s.ids i 0) at m)).0 in omega (arith, z.bricks.first 0 (brick_here s z 0 t))

-- ---- join: its id is no one's yet
module _ (s : State) (z : Sound s) (o : ℕ → Bool) (w : WantInvariant s o) where
  abbrev new : ℕ
  new = suc s.given

  old : (j : ℕ) → s.bricks.member j ≡ true → j ≡ new → ⊥
  old j y = not_joined s j (present_born s z j (brick_here s z j y))

  still_member : (j : ℕ) → s.bricks.member j ≡ true → upd s.bricks.member new false j ≡ true
  still_member j y = still_flagged s.bricks.member new j (old j y) y

  still_kept : (k : ℕ) → KeptBy s k → Kept (upd s.bricks.member new false) (upd s.bricks.log new []) k
  still_kept k = kept_by k (λ i m t. (still_member i m, rw (upd_other s.bricks.log new i [] (old i m)) t))

  pub join_want : (i : ℕ) → Yes s (Event.join i) → WantInvariant (rule s (Event.join i)).after o
  unfolding rule join_effect
  join_want i y = record {
    uses = uses_map still_kept (join_uses (KeptBy s) s w.uses z i);
    buckets = λ g l.
        let k = s.bucket g in
        let u = w.buckets g l in
        let pair = (z.buckets_ok g l).pair in
        record {
          pair = record {
            tracked = u.pair.tracked;
            one = elim u.pair.one [ inl m ↦ inl (still_member _ m) | inr m ↦ inr (still_member _ m) ];
            all = λ _ f. absurd ((unflag s.bricks.member new new (rw (upd_same s.ids i new) at (f i (search ltb-true)))).1 refl);
          };
          matches_backup = λ ready n r m t.
              let backup : k.backup ≡ new → ⊥ = not_joined s _ pair.two_born in
              let primary : k.primary ≡ new → ⊥ = not_joined s _ pair.one_born in
              let out = rw (upd_other s.bricks.member new k.primary false primary) at n in
              rw (upd_other k.memory new k.backup [] backup) (u.matches_backup ready out r m t);
        };
  }
