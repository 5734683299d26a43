-- Where every bucket is ready with nothing pending, all that is in use is mapped: nothing waits, and copies and relays have the primary's keys.
use mathlib.Core.Path.{◌≡◌, refl, sym, subst, ◌∙◌}
use mathlib.Core.List.{Memᴰ}
use mathlib.Core.Bool.{Bool, true}
use mathlib.Core.Logic.{◌⊎◌, inl, inr}
use Prim.Native.Nat.{ℕ, ◌<◌}
use native.Mathlib.Omega.{arith}
use Rattle.lists.proofs.Tests.{by, clash}
use Rattle.rules.specs.Limits.{buckets}
use Rattle.rules.specs.Entries.{Entry, key_for}
use Rattle.rules.specs.State.{State, Bucket}
use Rattle.rules.specs.Derived.{bucket_no, primary_memory, backup_memory, agree, nothing_pending}
use Rattle.rules.proofs.Derived.{bucket_below, agree_all, nothing_pending_agrees}
use Rattle.rules.proofs.Sound.{Sound}
use Rattle.history.specs.Claim.{History}
use Rattle.history.proofs.History.{one_number}
use Rattle.history.proofs.Copies.{Same, copies_agreed, primary_relied}
use Rattle.history.proofs.AgeingInvariant.{AgeingInvariant}
use Rattle.history.proofs.WantInvariant.{EachLive, Uses, Wants}

-- a bucket that is ready with nothing pending: the four agree on every block, and a relay not yet taken has the primary's key
pub record Settled (s : State) (g : ℕ) (k : Bucket) : Type 0 where
  pub ready : k.ready ≡ true
  pub same : Same k
  pub one_key : (b : ℕ) → agree k b ≡ true
  pub live_kept : EachLive g s.bag s.view k.taken (λ r. r.key ≡ key_for (primary_memory k) r.block)

-- the primary is a member, or what it sent is what the backup has
abbrev pub Follows : State → ℕ → Bucket → Type 0
Follows s g k = (s.bricks.member k.primary ≡ true) ⊎ EachLive g s.bag s.view k.taken (λ r. r.key ≡ key_for (k.memory k.backup) r.block)

pub wants_follow : (s : State) (o : ℕ → Bool) → Wants s o → (g : ℕ) → g < buckets s.settings → (s.bucket g).ready ≡ true → Follows s g (s.bucket g)
wants_follow s o w g l y = by (s.bricks.member (s.bucket g).primary) (λ m. inl m) (λ n. inr ((w g l).matches_backup y n))

module _ (s : State) (h : History) (v : AgeingInvariant s h) (nothing_pending_in : (g : ℕ) → g < buckets s.settings → nothing_pending (s.bucket g) ≡ true)
    (follows : (g : ℕ) → g < buckets s.settings → (s.bucket g).ready ≡ true → Follows s g (s.bucket g)) where
  pub settled : (g : ℕ) → g < buckets s.settings → Settled s g (s.bucket g)
  settled g l =
      let k = s.bucket g in
      let t = nothing_pending_agrees k (nothing_pending_in g l) in
      let u = (v.buckets g l).flight in
      record {
        ready = t.0;
        same = (v.buckets g l).same t.0;
        one_key = t.1;
        live_kept = λ r m n.
            let e : key_for (backup_memory k) r.block ≡ key_for (primary_memory k) r.block = (agree_all k r.block (t.1 r.block)).1 in
            elim (follows g l t.0) [
              | inl y ↦
                  let ahead = u.leads y r m in
                  let behind = rw e at (u.behind r m n) in
                  one_number (h.writes r.block) r.key _ (omega arith) (v.relays r m.in_bag).is_write
              | inr f ↦ f r m n ∙ e
            ];
      }

  pub none_waits : (i : ℕ) (e : Entry) → Memᴰ e (s.bricks.buffer i) → ⊥
  none_waits i e m =
      let l = bucket_below s.settings e.block in
      clash ((v.buckets (bucket_no s e.block) l).waiting i e m refl).unready (settled _ l).ready

  module _ (K : ℕ → Type 0) (u : Uses K s) where
    -- what is asked of the mapped keys holds of all keys in use
    pub uses_mapped : (L : ℕ → Type 0) → ((g : ℕ) → g < buckets s.settings → (b : ℕ) → L (key_for (primary_memory (s.bucket g)) b)) → Uses L s
    uses_mapped L f = record {
      waiting = λ i e m. absurd (none_waits i e m);
      buckets = λ g l.
          let c = settled g l in
          record {
            copies = copies_agreed (s.bucket g) c.same _ _ (λ b j y _. subst L (sym (y (c.one_key b))) (f g l b)) (u.buckets g l).copies;
            live_kept = λ r m t. subst L (sym (c.live_kept r m t)) (f g l r.block);
          };
    }

    -- and what is asked of the keys in use, of the mapped ones
    pub mapped_used : Sound s → K 0 → (g : ℕ) → g < buckets s.settings → (b : ℕ) → K (key_for (primary_memory (s.bucket g)) b)
    mapped_used z none g l b =
        let k = s.bucket g in
        by (s.bricks.present k.primary)
        (λ y. (u.buckets g l).copies.memory k.primary (primary_relied k (settled g l).same y) b)
        (λ n. rw ((z.buckets_ok g l).blank_memory k.primary n) (unfold key_for in none))
