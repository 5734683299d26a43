-- map, savemap, abandon, learn and reset keep the invariant of the ageing rule. (Relays stand in a file of their own, and done with get: both mark.)
use mathlib.Core.Path.{◌≡◌, refl, sym, ap, ◌∙◌}
use mathlib.Core.List.Memᴰ
use mathlib.Core.List.{List, [], ◌∷◌, ◌++◌, Memᴰ}
use mathlib.Core.Bool.{true, false}
use mathlib.Core.Logic.{◌⊎◌, inl, inr}
use Prim.Native.Nat.{ℕ, ◌≤◌, ◌<◌}
use native.Mathlib.Omega.{arith}
use Rattle.lists.specs.Columns.{upd}
use Rattle.lists.proofs.Tests.{by_eq, either, clash, only_in, one_more}
use Rattle.lists.proofs.Columns.{upd_same, upd_other, upd_all}
use Rattle.rules.specs.Limits.{buckets}
use Rattle.rules.specs.Numbers.{bucket_of}
use Rattle.rules.specs.Entries.{Entry, entry, key_for, insert, remove}
use Rattle.rules.specs.Event.{Event}
use Rattle.rules.specs.State.{State, Bucket, with_copies}
use Rattle.rules.specs.Derived.{bucket_no, bucket_at, item}
use Rattle.rules.specs.Maps.{map_effect, saved_bucket, savemap_effect, item_goes, learn_effect, reset_effect}
use Rattle.rules.specs.Step.{rule}
use Rattle.rules.proofs.Step.{Yes}
use Rattle.rules.proofs.Derived.{bucket_below}
use Rattle.rules.proofs.Entries.{key_for_insert}
use Rattle.rules.proofs.Sound.{Sound}
use Rattle.history.specs.Claim.{History, number}
use Rattle.history.proofs.History.{number_most}
use Rattle.history.proofs.Copies.{copies_map, copies_insert, copies_saved}
use Rattle.history.proofs.Facts.{item_newest, moves_ageing}
use Rattle.history.proofs.AgeingInvariant.{Older, Newest, BucketAge, AgeOf, AgeingInvariant}

-- ---- items
module _ (s : State) (h : History) (v : AgeingInvariant s h) where
  abbrev NewestIn : List Entry → Type 0
  NewestIn l = (e : Entry) → Memᴰ e l → Newest h.writes e.block e.key

  items_go : (p b q : ℕ) → NewestIn (upd s.items p (remove (s.items p) b) q)
  unfolding remove
  items_go p b = upd_all (λ _. NewestIn) s.items p _ v.items (λ e m. v.items p e (only_in _ _ m).0)

  -- done and abandon
  pub item_goes_ageing : (p b : ℕ) → AgeingInvariant (item_goes s p b) h
  unfolding item_goes
  item_goes_ageing p b = search (items_go p b)

  pub learn_ageing : (p : ℕ) → AgeingInvariant (rule s (Event.learn p)).after h
  unfolding rule learn_effect
  learn_ageing p = search

  none_left : (p q : ℕ) → NewestIn (upd s.items p [] q)
  none_left p = upd_all (λ _. NewestIn) s.items p [] v.items (λ e m. absurd (Memᴰ.not-nil m))

  pub reset_ageing : (p : ℕ) → AgeingInvariant (rule s (Event.reset p)).after h
  unfolding rule reset_effect
  reset_ageing p = search (none_left p)

-- ---- map: into the memory of a ready bucket's primary, or into its buffer
module _ (s : State) (h : History) (v : AgeingInvariant s h) (o : Sound s) (p b : ℕ) (y : Yes s (Event.map p b)) where
  abbrev own : Bucket
  own = bucket_at s b

  abbrev which : ℕ
  which = bucket_no s b

  abbrev home : ℕ
  home = own.primary

  abbrev key : ℕ
  key = item s p b

  inside : which < buckets s.settings
  inside = bucket_below s.settings b

  newest : Newest h.writes b key
  unfolding rule
  newest = item_newest s h v p b (search)

  -- no write of the block is later
  over : (j : ℕ) → Older h.writes b j key
  over j = omega (arith, number_most (h.writes b) j, newest.last)

  top : h.mark b ≤ number (h.writes b) key
  top = omega (arith, v.marked b, newest.last)

  in_memory : own.ready ≡ true → AgeOf s h which (with_copies own (upd own.memory home (insert (own.memory home) b key)) own.disk)
  unfolding upd
  in_memory ready _ =
      let u = v.buckets which inside in
      let f = u.flight in
      let apart : own.backup ≡ home → ⊥ = λ e. (o.buckets_ok which inside).pair.apart (sym e) in
      let l = insert (own.memory home) b key in
      let at_backup : upd own.memory home l own.backup ≡ own.memory own.backup = upd_other own.memory home own.backup l apart in
      let at_primary : (c : ℕ) → key_for (upd own.memory home l home) c ≡ upd (key_for (own.memory home)) b key c
      = λ c. rw (upd_same own.memory home l) (key_for_insert (own.memory home) b key c) in
      record {
        same = u.same;
        copies = copies_insert _ u.copies home b key (record {
          known = inr newest.is_write;
          floor = λ _. top;
          waits = λ i e m z. clash (u.waiting i e m (ap (bucket_of (buckets s.settings)) z)).unready ready;
        });
        waiting = u.waiting;
        queue = u.queue;
        flight = record {
          behind = rw at_backup f.behind;
          disk_behind = rw at_backup f.disk_behind;
          leads = λ n r m. rw (at_primary r.block) (by_eq r.block b (λ t e. rw (t, e) (over r.key)) (λ t _. rw t (f.leads n r m)));
          ahead = λ n z c. rw (at_primary c, at_backup) (by_eq c b (λ t e. rw (t, e) (over _)) (λ t _. rw t (f.ahead n z c)));
        };
      }

  abbrev buffer' : ℕ → List Entry
  buffer' = upd s.bricks.buffer home (s.bricks.buffer home ++ (entry b key ∷ []))

  abbrev WaitsNow : ℕ → Entry → Type 0
  WaitsNow i e = (Memᴰ e (s.bricks.buffer i)) ⊎ ((e ≡ entry b key) × (i ≡ home))

  pub waits_now : (i : ℕ) (e : Entry) → Memᴰ e (buffer' i) → WaitsNow i e
  waits_now =
      upd_all (λ i l. (e : Entry) → Memᴰ e l → WaitsNow i e) s.bricks.buffer home _ (λ i e m. inl m)
      (one_more {P = WaitsNow home} (s.bricks.buffer home) (λ e m. inl m) (inr (refl, refl)))

  in_buffer : own.ready ≡ false → (j : ℕ) → j < buckets s.settings
      → BucketAge h.writes h.mark (buckets s.settings) s.view s.bag buffer' s.bricks.present s.bricks.member j (s.bucket j)
  in_buffer unready j z =
      let u = v.buckets j z in
      let bucket_is : (e : Entry) → e ≡ entry b key → bucket_of (buckets s.settings) e.block ≡ j → which ≡ j
      = λ e n l. ap (λ (q : Entry). bucket_of (buckets s.settings) q.block) (sym n) ∙ l in
      record {
        same = u.same;
        copies = copies_map _ _ (λ c a t. record {
          known = t.known;
          floor = t.floor;
          waits = λ i e m l. elim (waits_now i e m) [ inl n ↦ t.waits i e n l | inr n ↦ rw (sym l ∙ ap (λ (q : Entry). q.block) n.0, n.0) (over a) ];
        }) (λ _ r. r) u.copies;
        waiting = λ i e m l. elim (waits_now i e m) [
          | inl n ↦ u.waiting i e n l
          | inr n ↦ record {
            whose = n.1 ∙ ap (λ (a : ℕ). (s.bucket a).primary) (bucket_is e n.0 l);
            unready = ap (λ (a : ℕ). (s.bucket a).ready) (sym (bucket_is e n.0 l)) ∙ unready;
            is_write = rw n.0 newest.is_write;
            floor = rw n.0 top;
          }
        ];
        queue = u.queue;
        flight = u.flight;
      }

  pub map_ageing : AgeingInvariant (rule s (Event.map p b)).after h
  unfolding rule map_effect
  map_ageing = either (λ (t : State). AgeingInvariant t h) own.ready
      (λ ready. moves_ageing v v.relays (upd_all (AgeOf s h) s.bucket which _ v.buckets (in_memory ready)))
      (λ unready. moves_ageing v v.relays (in_buffer unready))

-- ---- savemap
module _ (s : State) (h : History) (v : AgeingInvariant s h) where
  saved : (x g : ℕ) → AgeOf s h g (saved_bucket x (s.bucket g))
  unfolding upd
  saved x g z =
      let k = s.bucket g in
      let u = v.buckets g z in
      record {
        same = u.same;
        copies = copies_saved _ u.copies x;
        waiting = u.waiting;
        queue = u.queue;
        flight = record {
          behind = u.flight.behind;
          disk_behind = λ y b. by_eq k.backup x (λ q e. rw (q, e) (omega arith)) (λ q _. rw q (u.flight.disk_behind y b));
          leads = u.flight.leads;
          ahead = u.flight.ahead;
        };
      }

  pub savemap_ageing : (i : ℕ) → AgeingInvariant (rule s (Event.savemap i)).after h
  unfolding rule savemap_effect
  savemap_ageing i = moves_ageing v v.relays (saved (s.ids i))
