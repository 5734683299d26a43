-- put keeps the invariant of the ageing rule, and answers a new key: the history has one more write, and no key in use changes its number.
use mathlib.Core.Path.{◌≡◌, refl, sym, ap, ◌∙◌}
use mathlib.Core.List.{List, ◌∷◌, Memᴰ}
use mathlib.Core.Bool.{true, false}
use mathlib.Core.Logic.{inl, inr}
use Prim.Native.Nat.{ℕ, suc, ◌≤◌, ◌<◌}
use native.Mathlib.Omega.{arith}
use lib.Dec.{eqb}
use borrow.Author.Tests.{eqb-true, eq-eqb}
use Rattle.lists.specs.Columns.{upd}
use Rattle.lists.proofs.Tests.{by_eq, by_lt, is_no, some_of, one_more}
use Rattle.lists.proofs.Columns.{upd_same, upd_other, upd_all}
use Rattle.rules.specs.Limits.{buckets}
use Rattle.rules.specs.Numbers.{sequences, home_of, sequence_of, proxy_of}
use Rattle.rules.specs.Entries.{Entry, key_for, has, insert}
use Rattle.rules.specs.Chunks.{Chunk, new_chunk, append}
use Rattle.rules.specs.Event.{Event}
use Rattle.rules.specs.State.{State, Relay}
use Rattle.rules.specs.Writes.{new_key, put_effect}
use Rattle.rules.specs.Step.{rule}
use Rattle.rules.proofs.Step.{Yes}
use Rattle.rules.proofs.Derived.{home_key, sequence_key}
use Rattle.rules.proofs.Entries.{insert_in}
use Rattle.rules.proofs.Sound.{KeyOf, TableOk, Sound}
use Rattle.history.specs.Claim.{Write, History, number, meaning, record_event}
use Rattle.history.proofs.Sound.Groups.{next_grows, member_here}
use Rattle.history.proofs.History.{number_new, written_new, one_more_write, number_rises, length_rises, number_stays, written_stays}
use Rattle.history.proofs.Copies.{copies_map}
use Rattle.history.proofs.Facts.{key_for_key}
use Rattle.history.proofs.AgeingInvariant.{Writes, Known, Older, Newest, BytesOfWrite, InBag, BucketAge, AgeingInvariant}

-- `o` and `o'`: the store is sound before and after
module _ (s : State) (h : History) (v : AgeingInvariant s h) (o : Sound s) (p i b : ℕ) (d : List ℕ) (y : Yes s (Event.put p i b d))
    (o' : Sound (rule s (Event.put p i b d)).after) where
  abbrev brick : ℕ
  brick = s.ids i

  abbrev key : ℕ
  key = new_key s brick

  abbrev new : Write
  new = record { key = key; bytes = d }

  abbrev now : Writes
  now = one_more_write h.writes b new

  -- ---- the new key is not in use
  is_here : s.bricks.present brick ≡ true
  unfolding rule
  is_here = member_here o brick search

  first : 0 < brick
  first = o.bricks.first brick is_here

  room : s.bricks.next brick < sequences
  unfolding rule put_effect
  room = omega (arith, o'.numbers.below brick, o'.numbers.most brick, upd_same s.bricks.next brick (suc (s.bricks.next brick)))

  not_new : (j : ℕ) → KeyOf s j → j ≡ key → ⊥
  not_new j t e =
      let home : home_of j ≡ brick = ap home_of e ∙ home_key brick _ room in
      let sequence : sequence_of j ≡ s.bricks.next brick = ap sequence_of e ∙ sequence_key brick _ room in
      omega (arith, t.used (rw home is_here), ap s.bricks.next home)

  not_known : (c j : ℕ) → Known h.writes c j → j ≡ key → ⊥
  not_known c j (inl z) e = omega (arith, first)
  not_known c j (inr z) e = not_new j (v.keys c j z) e

  not_read : {P : ℕ → Type 0} {most : ℕ} (l : List Entry) (c : ℕ) → TableOk (KeyOf s) P most l → key_for l c ≡ key → ⊥
  not_read l c t e = elim (key_for_key l c t) [ inl z ↦ omega (arith, first) | inr z ↦ not_new _ z e ]

  -- no two accepted puts answer one key
  pub put_key_unused : (c : ℕ) → number (h.writes c) key ≡ 0
  put_key_unused c = by_lt 0 (number (h.writes c) key) (λ _ z. absurd (not_new key (v.keys c key z) refl)) (λ _ z. omega arith)

  -- ---- the groups
  put_keys : (c j : ℕ) → 0 < number (now c) j → KeyOf (rule s (Event.put p i b d)).after j
  unfolding rule put_effect
  put_keys c j z =
      let log = append (s.bricks.log brick) (new_chunk key false d) in
      let last : Memᴰ (new_chunk key false d) (upd s.bricks.log brick log brick)
      = rw (upd_same s.bricks.log brick log) (mathlib.Core.List.Memᴰ.append_right (s.bricks.log brick) (mathlib.Core.List.Memᴰ.head refl)) in
      by_eq j key (λ _ e. rw e ((o'.logs brick).each (new_chunk key false d) last).key)
      (λ _ n. next_grows brick _ (omega arith) (v.keys c j (rw (number_stays h.writes b new j n c) at z)))

  -- an item of another proxy is of another block, and this proxy has none of the block
  other_item : (q : ℕ) (e : Entry) → Memᴰ e (s.items q) → e.block ≡ b → ⊥
  unfolding rule has
  other_item q e m z =
      let mine : proxy_of e.block ≡ q = ((o.items q).each e m).mine in
      let belongs : proxy_of b ≡ p = search eqb-true in
      let present : Memᴰ e (s.items p) = rw (sym mine ∙ ap proxy_of z ∙ belongs) at m in
      is_no (has (s.items p) b) (search) (some_of (λ (f : Entry). eqb b f.block) (s.items p) e present (eq-eqb b e.block (sym z)))

  abbrev NewestIn : ℕ → List Entry → Type 0
  NewestIn _ l = (e : Entry) → Memᴰ e l → Newest now e.block e.key

  put_items : (q : ℕ) → NewestIn q (upd s.items p (insert (s.items p) b key) q)
  put_items = upd_all NewestIn s.items p _ old (λ e m. elim (insert_in (s.items p) b key e m) [ inl n ↦ old p e n | inr z ↦ rw z newest ])
    where
      old : (q : ℕ) → NewestIn q (s.items q)
      old q e m =
          let t = v.items q e m in
          let u = upd_other h.writes b e.block (new ∷ h.writes b) (other_item q e m) in
          record { is_write = rw u t.is_write; last = rw u t.last }

      newest : Newest now b key
      newest =
          let u = upd_same h.writes b (new ∷ h.writes b) in
          let n = number_new (h.writes b) new in
          record { is_write = rw (u, n) (omega arith); last = rw (u, n) }

  abbrev HonestIn : ℕ → List Chunk → Type 0
  HonestIn _ l = (c : Chunk) → Memᴰ c l → BytesOfWrite now c.key c.bytes

  put_logs : (a : ℕ) → HonestIn a (upd s.bricks.log brick (append (s.bricks.log brick) (new_chunk key false d)) a)
  put_logs = upd_all HonestIn s.bricks.log brick _ old (one_more (s.bricks.log brick) (old brick) write_bytes_new)
    where
      old : (a : ℕ) → HonestIn a (s.bricks.log a)
      old a c m e z =
          let n : c.key ≡ key → ⊥ = not_new _ ((o.logs a).each c m).key in
          rw (written_stays h.writes b new c.key n e) (v.logs a c m e (rw (number_stays h.writes b new c.key n e) at z))

      write_bytes_new : BytesOfWrite now key d
      write_bytes_new c z =
          by_eq c b (λ _ e. rw (e, upd_same h.writes b (new ∷ h.writes b)) (sym (written_new (h.writes b) new)))
          (λ _ n. absurd (omega (arith, put_key_unused c, rw (upd_other h.writes b c (new ∷ h.writes b) n) at z)))

  rises : (c j : ℕ) → number (h.writes c) j ≤ number (now c) j
  rises = number_rises h.writes b new

  older : (c j k : ℕ) → (j ≡ key → ⊥) → Older h.writes c j k → Older now c j k
  older c j k n u = omega (arith, number_stays h.writes b new j n c, rises c k)

  put_bucket : (g : ℕ) → g < buckets s.settings
      → BucketAge now h.mark (buckets s.settings) s.view s.bag s.bricks.buffer s.bricks.present s.bricks.member g (s.bucket g)
  put_bucket g z =
      let u = v.buckets g z in
      let f = u.flight in
      let t = o.buckets_ok g z in
      let c = (s.bucket g).backup in
      let not_relay : (r : Relay) → InBag g s.view s.bag r → r.key ≡ key → ⊥ = λ r m. not_new _ (o.relays r m.in_bag).key in
      record {
        same = u.same;
        copies = copies_map _ _ (λ a j q. record {
          known = elim q.known [ inl n ↦ inl n | inr n ↦ inr (omega (arith, rises a j)) ];
          floor = λ n. omega (arith, rises a j, q.floor n);
          waits = λ l e m n. older a j e.key (not_known a j q.known) (q.waits l e m n);
        }) (λ _ r. r) u.copies;
        waiting = λ l e m n. let q = u.waiting l e m n in record {
          whose = q.whose;
          unready = q.unready;
          is_write = omega (arith, rises e.block e.key, q.is_write);
          floor = omega (arith, rises e.block e.key, q.floor);
        };
        queue = record {
          ordered = u.queue.ordered;
          while_ready = u.queue.while_ready;
          sorted = λ r q m n e l. older _ _ _ (not_relay r m) (u.queue.sorted r q m n e l);
        };
        flight = record {
          behind = λ r m n. older _ _ _ (not_read _ _ (t.memory c)) (f.behind r m n);
          disk_behind = λ n a. older _ _ _ (not_read _ _ (t.disk c)) (f.disk_behind n a);
          leads = λ n r m. older _ _ _ (not_relay r m) (f.leads n r m);
          ahead = λ n m a. older _ _ _ (not_read _ _ (t.memory c)) (f.ahead n m a);
        };
      }

  pub put_ageing : AgeingInvariant (rule s (Event.put p i b d)).after (record_event h (meaning (Event.put p i b d)) (rule s (Event.put p i b d)).said)
  unfolding rule put_effect meaning
  put_ageing = record {
    keys = put_keys;
    marked = λ c. omega (arith, v.marked c, length_rises h.writes b new c);
    items = put_items;
    logs = put_logs;
    relays = λ r m. let t = v.relays r m in record { is_write = omega (arith, t.is_write, rises r.block r.key); past = t.past };
    buckets = put_bucket;
  }
