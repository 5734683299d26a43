-- view, fetch and ready keep the invariant of the ageing rule.
use mathlib.Core.Path.{◌≡◌, refl, sym, ap, ◌∙◌}
use mathlib.Core.List.{List, [], Memᴰ}
use mathlib.Core.Bool.{Bool, true, false, not}
use mathlib.Core.Logic.{inl, inr}
use Prim.Native.Nat.{ℕ, suc, ◌<◌}
use native.Mathlib.Omega.{arith}
use lib.Dec.{ltb}
use borrow.Author.Tests.{eqb-true, eq-eqb, ltb-true, not-true}
use Rattle.lists.specs.Tests.{only}
use Rattle.lists.specs.Columns.{upd}
use Rattle.lists.proofs.Tests.{by_eq, either, impossible, clash, is_no, only_in}
use Rattle.lists.proofs.Columns.{upd_same, upd_other, upd_all}
use Rattle.rules.specs.Limits.{buckets}
use Rattle.rules.specs.Numbers.{bucket_of}
use Rattle.rules.specs.Entries.{Entry, key_for, is_of_bucket, drain}
use Rattle.rules.specs.Event.{Event}
use Rattle.rules.specs.State.{State, Bucket, Relay}
use Rattle.rules.specs.Derived.{up_member}
use Rattle.rules.specs.Views.{viewed_bucket, view_effect, source, fetched_bucket, fetch_effect, dropped, ready_bucket, ready_effect}
use Rattle.rules.specs.Step.{rule}
use Rattle.rules.proofs.Step.{Yes}
use Rattle.rules.proofs.Sound.{Sound}
use Rattle.history.specs.Claim.{History}
use Rattle.history.proofs.Copies.{relied_anew, relied_before, ReliedOn, In, in_drain, copies_map, copies_fetched, copies_ready}
use Rattle.history.proofs.Sound.Groups.{member_here}
use Rattle.history.proofs.Facts.{moves_ageing, readable_fewer}
use Rattle.history.proofs.AgeingInvariant.{Older, Readable, InBag, BucketAge, AgeOf, AgeingInvariant}

-- the source of a fetch is relied on
pub source_relied : (s : State) → Sound s → (g : ℕ) → ltb 0 (source s g) ≡ true → ReliedOn s.bricks.present (s.bucket g) (source s g)
unfolding source
source_relied s o g =
    let k = s.bucket g in
    let P : ℕ → Type 0 = λ i. ltb 0 i ≡ true → ReliedOn s.bricks.present k i in
    either P (up_member s k.last_primary) (λ y _. record { is_present = member_here o _ y; role = inl refl })
    (λ _. either P (up_member s k.last_backup) (λ y _. record { is_present = member_here o _ y; role = inr (inl refl) }) (λ _. impossible))

-- so is a primary that has fetched
pub ready_relied : (s : State) → Sound s → (g : ℕ) → Yes s (Event.ready g) → ReliedOn s.bricks.present (s.bucket g) (s.bucket g).primary
unfolding rule
ready_relied s o g y =
    let fetched : (s.bucket g).fetched ≡ true = search in record { is_present = member_here o (s.bucket g).primary (search); role = inr (inr (fetched, refl)) }

module _ (s : State) (h : History) (v : AgeingInvariant s h) where
  -- ---- view: no relay is of the new one
  pub old_relay : (g : ℕ) (r : Relay) → InBag g (suc s.view) s.bag r → ⊥
  old_relay g r m = omega (arith, (v.relays r m.in_bag).past, m.now)

  viewed : (g p b : ℕ) → g < buckets s.settings
      → BucketAge h.writes h.mark (buckets s.settings) (suc s.view) s.bag (λ i. []) s.bricks.present s.bricks.up g
      (viewed_bucket p b (s.bucket g))
  viewed g p b z =
      let u = v.buckets g z in
      record {
        same = λ y. impossible y;
        copies = copies_map _ _ (readable_fewer (λ i e m. absurd (mathlib.Core.List.Memᴰ.not-nil m))) (λ i. relied_anew p _ _) u.copies;
        waiting = λ i e m. absurd (mathlib.Core.List.Memᴰ.not-nil m);
        queue = record { ordered = λ r m. absurd (old_relay g r m); while_ready = λ r m. absurd (old_relay g r m); sorted = λ r t m. absurd (old_relay g r m) };
        flight = record {
          behind = λ r m. absurd (old_relay g r m);
          disk_behind = λ y. impossible y;
          leads = λ y r m. absurd (old_relay g r m);
          ahead = λ y. impossible y;
        };
      }

  pub view_ageing : AgeingInvariant (rule s Event.view).after h
  unfolding rule view_effect
  view_ageing = record {
    keys = v.keys;
    marked = v.marked;
    items = v.items;
    logs = v.logs;
    relays = λ r m. let t = v.relays r m in record { is_write = t.is_write; past = omega (arith, t.past) };
    buckets = λ g. viewed g _ _;
  }

  module _ (o : Sound s) (g : ℕ) where
    abbrev own : Bucket
    own = s.bucket g

    -- while the bucket is not ready no relay of it is in the bag
    pub still : g < buckets s.settings → own.ready ≡ false → (r : Relay) → InBag g s.view s.bag r → ⊥
    still z unready r m = clash unready ((v.buckets g z).queue.while_ready r m)

    -- ---- fetch
    fetched : Yes s (Event.fetch g) → AgeOf s h g (fetched_bucket (source s g) own)
    unfolding rule
    fetched y z =
        let u = v.buckets g z in
        let unready : own.ready ≡ false = search not-true in
        record {
          same = u.same;
          copies = copies_fetched _ u.copies own.primary _ (u.copies.memory _ (source_relied s o g (search))) (λ i. relied_before own.primary _);
          waiting = u.waiting;
          queue = u.queue;
          flight = record {
            behind = λ r m. absurd (still z unready r m);
            disk_behind = λ t. clash unready t;
            leads = λ t r m. absurd (still z unready r m);
            ahead = λ t. clash unready t;
          };
        }

    pub fetch_ageing : Yes s (Event.fetch g) → AgeingInvariant (rule s (Event.fetch g)).after h
    unfolding rule fetch_effect
    fetch_ageing y = moves_ageing v v.relays (upd_all (AgeOf s h) s.bucket g _ v.buckets (fetched y))

    -- ---- ready
    abbrev mine : Entry → Bool
    mine = is_of_bucket (buckets s.settings) g

    abbrev waits : List Entry
    waits = s.bricks.buffer own.primary

    abbrev buffer' : ℕ → List Entry
    buffer' = upd s.bricks.buffer own.primary (only (λ e. not (mine e)) waits)

    abbrev drained : List Entry
    drained = drain s.settings.entries (own.memory own.primary) (only mine waits)

    waits_mine : (e : Entry) → Memᴰ e (only mine waits) → Memᴰ e waits × (bucket_of (buckets s.settings) e.block ≡ g)
    unfolding is_of_bucket
    waits_mine e m = let t = only_in mine waits m in (t.0, eqb-true _ _ t.1)

    module _ (z : g < buckets s.settings) where
      -- what waits yet is of other buckets
      pub waits_yet : (i : ℕ) (e : Entry) → Memᴰ e (buffer' i) → Memᴰ e (s.bricks.buffer i) × (bucket_of (buckets s.settings) e.block ≡ g → ⊥)
      unfolding upd is_of_bucket
      waits_yet i e m =
          by_eq i own.primary
          (λ q n. let t = only_in (λ f. not (mine f)) waits (rw q at m) in (rw n t.0, λ l. is_no _ t.1 (eq-eqb _ _ l)))
          (λ q n. let t : Memᴰ e (s.bricks.buffer i) = rw q at m in (t, λ l. n ((v.buckets g z).waiting i e t l).whose))

      abbrev Now : ℕ → ℕ → ℕ → Type 0
      Now = Readable h.writes h.mark (buckets s.settings) buffer'

      fewer : (j b k : ℕ) → Readable h.writes h.mark (buckets s.settings) s.bricks.buffer j b k → Now j b k
      fewer j = readable_fewer (λ i e m. (waits_yet i e m).0)

      module _ (y : Yes s (Event.ready g)) where
        is_relied : ReliedOn s.bricks.present own own.primary
        is_relied = ready_relied s o g y

        top : In (Now g) (own.memory own.primary)
        top b = fewer g b _ ((v.buckets g z).copies.memory own.primary is_relied b)

        drained_top : In (Now g) drained
        drained_top = in_drain (Now g) s.settings.entries (only mine waits) (own.memory own.primary) top (λ e m.
            let t = waits_mine e m in
            let u = (v.buckets g z).waiting own.primary e t.0 t.1 in
            record {
              known = inr u.is_write;
              floor = λ _. u.floor;
              waits = λ i f n l. absurd ((waits_yet i f n).1 (ap (bucket_of (buckets s.settings)) l ∙ t.1));
            })

        drained_later : (b : ℕ) → Older h.writes b (key_for (own.memory own.primary) b) (key_for drained b)
        drained_later = in_drain (λ b. Older h.writes b (key_for (own.memory own.primary) b)) s.settings.entries (only mine waits)
            (own.memory own.primary) (λ b. omega arith)
            (λ e m. ((v.buckets g z).copies.memory own.primary is_relied e.block).waits own.primary e (waits_mine e m).0 refl)

        readied : BucketAge h.writes h.mark (buckets s.settings) s.view s.bag buffer' s.bricks.present s.bricks.member g
            (ready_bucket s.bricks.up drained own)
        unfolding rule
        readied =
            let u = v.buckets g z in
            let p = own.primary in
            let c = own.backup in
            let l = own.memory p in
            let unready : own.ready ≡ false = search not-true in
            let apart : c ≡ p → ⊥ = λ e. (o.buckets_ok g z).pair.apart (sym e) in
            let disk_top : In (Now g) (own.disk p) = λ b. fewer g b _ (u.copies.disk p is_relied b) in
            let memories = dropped s.bricks.up own.memory in
            let disks = dropped s.bricks.up own.disk in
            let at_backup : (m : ℕ → List Entry) (d : List Entry) → upd (upd m c l) p d c ≡ l
            = λ m d. upd_other (upd m c l) p c d apart ∙ upd_same m c l in
            record {
              same = λ _. record { one = refl; two = refl };
              copies = copies_ready (Now g) _ p c _ memories disks l drained (own.disk p) apart top drained_top disk_top;
              waiting = λ i e m n. absurd ((waits_yet i e m).1 n);
              queue = record { ordered = u.queue.ordered; while_ready = λ r m. refl; sorted = u.queue.sorted };
              flight = record {
                behind = λ r m. absurd (still z unready r m);
                disk_behind = λ _ b. rw (at_backup memories drained, at_backup disks (own.disk p)) (omega arith);
                leads = λ t r m. absurd (still z unready r m);
                ahead = λ _ _ b. rw (at_backup memories drained, upd_same (upd memories c l) p drained) (drained_later b);
              };
            }

      rested : (j : ℕ) → j < buckets s.settings
          → BucketAge h.writes h.mark (buckets s.settings) s.view s.bag buffer' s.bricks.present s.bricks.member j (s.bucket j)
      rested j l =
          let u = v.buckets j l in
          record {
            same = u.same;
            copies = copies_map _ _ (fewer j) (λ _ r. r) u.copies;
            waiting = λ i e m. u.waiting i e (waits_yet i e m).0;
            queue = u.queue;
            flight = u.flight;
          }

    pub ready_ageing : Yes s (Event.ready g) → AgeingInvariant (rule s (Event.ready g)).after h
    unfolding rule ready_effect
    ready_ageing y =
        let z : g < buckets s.settings = search ltb-true in
        moves_ageing v v.relays (upd_all (AgeOf (rule s (Event.ready g)).after h) s.bucket g _ (rested z) (λ _. readied z y))
