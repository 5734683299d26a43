-- The computed test of soundness and the facts: a sound store passes, and a store of columns by place that passes is sound.
use mathlib.Core.Path.{◌≡◌, refl, sym, ap, ap₂, subst, ◌∙◌}
use mathlib.Core.List.Memᴰ
use mathlib.Core.List.{List, [], ◌∷◌, Memᴰ}
use mathlib.Core.Bool.{Bool, true, false}
use mathlib.Core.Logic.{◌↔◌}
use Prim.Native.Nat.{ℕ, ◌≤◌, ◌<◌}
use native.Mathlib.Omega.{arith}
use lib.Dec.{eqb}
use lib.ListN.{length}
use borrow.Author.Tests.{eqb-true, eq-eqb, ltb-true, leb-true, lt-ltb, le-leb}
use Rattle.lists.specs.Tests.{all_below, every}
use Rattle.lists.proofs.Tests.{by, by_eq, by_lt, impossible, clash, and_l, and_r, both, or_l, or_r, or_second, if_so, so_if, no, is_no}
use Rattle.lists.proofs.Tests.{all_true, all_at, every_in, every_of, eqb_self}
use Rattle.rules.specs.Limits.{proxies, buckets, max_items, max_view_or_order}
use Rattle.rules.specs.Numbers.{proxy_of, bucket_of, sequences}
use Rattle.rules.specs.Entries.{Entry, ascending}
use Rattle.rules.specs.Chunks.{Chunk}
use Rattle.rules.specs.State.{Bucket, Relay, State}
use Rattle.rules.specs.Question.{belongs}
use Rattle.rules.specs.Sound.{sound_header, sound_key, sound_entry, sound_entries, sound_table, anyone, in_bucket, keys_apart, sound_chunk, sound_log}
use Rattle.rules.specs.Sound.{sound_status, sound_buffer, same_entries, sound_copies, sound_brick, alone, sound_place, sound_pair, sound_bucket}
use Rattle.rules.specs.Sound.{sound_relay, sound_bag, sound_proxy, sound}
use Rattle.rules.proofs.Sound.{EntryOk, TableOk, BufferOk, ChunkOk, LogOk, RelayOk, PairOk, KeyOf, Sound}
use Rattle.rules.proofs.Placed.{Placed}

-- ---- an implication between tests, read backwards
not_so : (a b : Bool) → (b ≡ false → a ≡ false) → a ≡ true → b ≡ true
not_so a b f y = by b (λ z. z) (λ n. clash (f n) y)

-- ---- empty lists
pub table_none : {K P : ℕ → Type 0} {most : ℕ} → TableOk K P most []
unfolding ascending
table_none = record { sorted = refl; room = omega arith; each = λ e m. absurd (Memᴰ.not-nil m) }

pub buffer_none : {K : ℕ → Type 0} → BufferOk K []
buffer_none = record { room = omega arith; each = λ e m. absurd (Memᴰ.not-nil m) }

pub log_none : {K : ℕ → Type 0} {size : ℕ} → LogOk K size []
unfolding keys_apart
log_none = record { apart = refl; each = λ c m. absurd (Memᴰ.not-nil m) }

-- ---- equal lists of entries
same_entry : (e f : Entry) → e.block ≡ f.block → e.key ≡ f.key → e ≡ f
same_entry e f p q = λ i. record { block = p i; key = q i }

equal_lists : (l m : List Entry) → same_entries l m ≡ true → l ≡ m
unfolding same_entries
equal_lists [] [] y = refl
equal_lists [] (f ∷ m) y = impossible y
equal_lists (e ∷ l) [] y = impossible y
equal_lists (e ∷ l) (f ∷ m) y =
    ap₂ ◌∷◌ (same_entry e f (eqb-true _ _ (and_l _ _ (and_l _ _ y))) (eqb-true _ _ (and_r _ _ (and_l _ _ y)))) (equal_lists l m (and_r _ _ y))

lists_same : (l : List Entry) → same_entries l l ≡ true
unfolding same_entries
lists_same [] = refl
lists_same (e ∷ l) = both _ _ (both _ _ (eqb_self e.block) (eqb_self e.key)) (lists_same l)

pub same_entries_test : (l m : List Entry) → (same_entries l m ≡ true) ↔ (l ≡ m)
same_entries_test l m = (equal_lists l m, λ e. subst (λ (k : List Entry). same_entries l k ≡ true) e (lists_same l))

module _ (s : State) where
  abbrev Key : ℕ → Type 0
  Key = KeyOf s

  abbrev keys : ℕ → Bool
  keys = sound_key s

  -- ---- keys, entries, lists
  key_test : (k : ℕ) → (keys k ≡ true) ↔ Key k
  unfolding sound_key
  key_test k = (
    λ y. record {
      home = ltb-true _ _ (and_l _ _ (and_l _ _ y));
      born = leb-true _ _ (and_r _ _ (and_l _ _ y));
      used = λ h. ltb-true _ _ (if_so _ _ (and_r _ _ y) h);
    },
    λ v. both _ _ (both _ _ (lt-ltb _ _ v.home) (le-leb _ _ v.born)) (so_if _ _ (λ h. lt-ltb _ _ (v.used h))),
  )

  module _ (mine : ℕ → Bool) (P : ℕ → Type 0) (same : (b : ℕ) → (mine b ≡ true) ↔ P b) where
    entry_test : (e : Entry) → (sound_entry keys mine e ≡ true) ↔ EntryOk Key P e
    unfolding sound_entry
    entry_test e = (
      λ y. record { mine = (same _).0 (and_l _ _ (and_l _ _ y)); small = ltb-true _ _ (and_r _ _ (and_l _ _ y)); key = (key_test _).0 (and_r _ _ y) },
      λ v. both _ _ (both _ _ ((same _).1 v.mine) (lt-ltb _ _ v.small)) ((key_test _).1 v.key),
    )

    entries_test : (l : List Entry) → (every (sound_entry keys mine) l ≡ true) ↔ ((e : Entry) → Memᴰ e l → EntryOk Key P e)
    entries_test l = (
      λ y e i. (entry_test e).0 (every_in (sound_entry keys mine) l y e i),
      λ f. every_of (sound_entry keys mine) l (λ e i. (entry_test e).1 (f e i)),
    )

    table_test : (most : ℕ) (l : List Entry) → (sound_table keys mine most l ≡ true) ↔ TableOk Key P most l
    unfolding sound_table sound_entries
    table_test most l = (
      λ y. record { sorted = and_l _ _ y; room = leb-true _ _ (and_l _ _ (and_r _ _ y)); each = (entries_test l).0 (and_r _ _ (and_r _ _ y)) },
      λ v. both _ _ v.sorted (both _ _ (le-leb _ _ v.room) ((entries_test l).1 v.each)),
    )

  no_length : (l : List Entry) → (length l ≡ 0) ↔ (l ≡ [])
  no_length [] = (λ _. refl, λ _. refl)
  no_length (e ∷ l) = (λ n. absurd (omega arith), λ n. ap length n)

  buffer_test : (up : Bool) (l : List Entry) → (sound_buffer keys up l ≡ true) ↔ (BufferOk Key l × (up ≡ false → l ≡ []))
  unfolding sound_buffer sound_entries
  buffer_test up l =
      let each = entries_test anyone (λ b. Unit {0}) (λ b. (λ _. tt, λ _. refl)) l in (
        λ y. (
          record { room = leb-true _ _ (and_l _ _ (and_l _ _ y)); each = each.0 (and_r _ _ (and_l _ _ y)) },
          λ z. (no_length _).0 (eqb-true _ 0 (or_second _ _ (and_r _ _ y) z)),
        ),
        λ v. both _ _ (both _ _ (le-leb _ _ v.0.room) (each.1 v.0.each)) (by up (or_l _ _) (λ z. or_r _ _ (eq-eqb _ 0 ((no_length _).1 (v.1 z))))),
      )

  chunk_test : (c : Chunk) → (sound_chunk keys s.settings.size c ≡ true) ↔ ChunkOk Key s.settings.size c
  unfolding sound_chunk
  chunk_test c = (λ y. record { key = (key_test _).0 (and_l _ _ y); bytes = and_r _ _ y }, λ v. both _ _ ((key_test _).1 v.key) v.bytes)

  log_test : (l : List Chunk) → (sound_log keys s.settings l ≡ true) ↔ (LogOk Key s.settings.size l × (length l ≤ s.settings.chunks))
  unfolding sound_log
  log_test l = (
    λ y. (
      record { apart = and_l _ _ (and_l _ _ y); each = λ c i. (chunk_test c).0 (every_in (sound_chunk keys s.settings.size) l (and_r _ _ y) c i) },
      leb-true _ _ (and_r _ _ (and_l _ _ y)),
    ),
    λ v. both _ _ (both _ _ v.0.apart (le-leb _ _ v.1)) (every_of (sound_chunk keys s.settings.size) l (λ c i. (chunk_test c).1 (v.0.each c i))),
  )

  -- ---- relays, pairs, buckets
  relay_test : (r : Relay) → (sound_relay keys s.settings r ≡ true) ↔ RelayOk Key (buckets s.settings) r
  unfolding sound_relay in_bucket
  relay_test r = (
    λ y.
        let a = and_l _ _ y in
        let b = and_l _ _ a in
        let c = and_l _ _ b in
        record {
          view = leb-true _ _ (and_l _ _ c);
          bucket = eqb-true _ _ (and_r _ _ c);
          order = leb-true _ _ (and_r _ _ b);
          small = ltb-true _ _ (and_r _ _ a);
          key = (key_test _).0 (and_r _ _ y);
        },
    λ v.
        both _ _ (both _ _ (both _ _ (both _ _ (le-leb _ _ v.view) (eq-eqb _ _ v.bucket)) (le-leb _ _ v.order)) (lt-ltb _ _ v.small))
        ((key_test _).1 v.key),
  )

  pair_test : (given a b : ℕ) → (sound_pair given a b ≡ true) ↔ PairOk given a b
  unfolding sound_pair
  pair_test given a b = (
    λ y.
        let c = and_l _ _ y in
        let d = and_l _ _ c in
        let e = and_l _ _ d in
        record {
          one_first = ltb-true _ _ (and_l _ _ e);
          one_born = leb-true _ _ (and_r _ _ e);
          two_first = ltb-true _ _ (and_r _ _ d);
          two_born = leb-true _ _ (and_r _ _ c);
          apart = λ u. is_no _ (and_r _ _ y) (eq-eqb _ _ u);
        },
    λ v.
        both _ _ (both _ _ (both _ _ (both _ _ (lt-ltb _ _ v.one_first) (le-leb _ _ v.one_born)) (lt-ltb _ _ v.two_first)) (le-leb _ _ v.two_born))
        (no _ (λ e. v.apart (eqb-true _ _ e))),
  )

  -- what the test of a bucket asks: the copies are asked of the bricks
  record Agreed (k : Bucket) : Type 0 where
    pair : PairOk s.given k.primary k.backup
    last : PairOk s.given k.last_primary k.last_backup
    last_sent : k.last_sent ≤ max_view_or_order
    taken : k.taken ≤ max_view_or_order

  abbrev record_test : Bucket → Bool
  record_test k = sound_bucket s.given k.primary k.backup k.last_primary k.last_backup k.last_sent k.taken

  bucket_test : (k : Bucket) → (record_test k ≡ true) ↔ Agreed k
  unfolding sound_bucket
  bucket_test k = (
    λ y.
        let a = and_l _ _ y in
        let b = and_l _ _ a in
        record {
          pair = (pair_test _ _ _).0 (and_l _ _ b);
          last = (pair_test _ _ _).0 (and_r _ _ b);
          last_sent = leb-true _ _ (and_r _ _ a);
          taken = leb-true _ _ (and_r _ _ y);
        },
    λ v. both _ _ (both _ _ (both _ _ ((pair_test _ _ _).1 v.pair) ((pair_test _ _ _).1 v.last)) (le-leb _ _ v.last_sent)) (le-leb _ _ v.taken),
  )

  -- ---- proxies
  record Proxy (p : ℕ) : Type 0 where
    known : s.known p ≤ max_view_or_order
    items : TableOk Key (λ b. proxy_of b ≡ p) max_items (s.items p)

  abbrev proxy_passes : ℕ → Bool
  proxy_passes p = sound_proxy keys p (s.known p) (s.items p)

  proxy_test : (p : ℕ) → (proxy_passes p ≡ true) ↔ Proxy p
  unfolding sound_proxy
  proxy_test p =
      let items = table_test (belongs p) (λ b. proxy_of b ≡ p) (λ b. (eqb-true _ _, eq-eqb _ _)) max_items (s.items p) in (
        λ y. record { known = leb-true _ _ (and_l _ _ y); items = items.0 (and_r _ _ y) },
        λ v. both _ _ (le-leb _ _ v.known) (items.1 v.items),
      )

  -- ---- bricks
  abbrev Copy : ℕ → List Entry → Type 0
  Copy g l = TableOk Key (λ b. bucket_of (buckets s.settings) b ≡ g) s.settings.entries l

  record Copies (i g : ℕ) : Type 0 where
    memory : Copy g ((s.bucket g).memory i)
    disk : Copy g ((s.bucket g).disk i)
    down : s.bricks.up i ≡ false → (s.bucket g).memory i ≡ (s.bucket g).disk i

  abbrev copies_pass : ℕ → ℕ → Bool
  copies_pass i g = sound_copies keys s.settings (s.bricks.up i) g ((s.bucket g).memory i) ((s.bucket g).disk i)

  copies_test : (i g : ℕ) → (copies_pass i g ≡ true) ↔ Copies i g
  unfolding sound_copies
  copies_test i g =
      let most = s.settings.entries in
      let present : (b : ℕ) → (in_bucket s.settings g b ≡ true) ↔ (bucket_of (buckets s.settings) b ≡ g) = λ b. unfold in_bucket in (eqb-true _ _, eq-eqb _ _) in
      let table : (l : List Entry) → (sound_table keys (in_bucket s.settings g) most l ≡ true) ↔ Copy g l
      = table_test (in_bucket s.settings g) (λ b. bucket_of (buckets s.settings) b ≡ g) present most in
      let same = same_entries_test ((s.bucket g).memory i) ((s.bucket g).disk i) in (
        λ y. record {
          memory = (table _).0 (and_l _ _ (and_l _ _ y));
          disk = (table _).0 (and_r _ _ (and_l _ _ y));
          down = λ n. same.0 (or_second _ _ (and_r _ _ y) n);
        },
        λ v. both _ _ (both _ _ ((table _).1 v.memory) ((table _).1 v.disk)) (by (s.bricks.up i) (or_l _ _) (λ n. or_r _ _ (same.1 (v.down n)))),
      )

  record Brick (i : ℕ) : Type 0 where
    member : s.bricks.member i ≡ true → s.bricks.up i ≡ true
    below : s.bricks.next i ≤ s.bricks.ceiling i
    most : s.bricks.ceiling i ≤ sequences
    log : LogOk Key s.settings.size (s.bricks.log i)
    log_room : length (s.bricks.log i) ≤ s.settings.chunks
    buffer : BufferOk Key (s.bricks.buffer i)
    buffer_down : s.bricks.up i ≡ false → s.bricks.buffer i ≡ []
    copies : (g : ℕ) → g < buckets s.settings → Copies i g

  brick_test : (i : ℕ) → (sound_brick s i ≡ true) ↔ Brick i
  unfolding sound_brick sound_status
  brick_test i =
      let b = s.bricks in
      let n = buckets s.settings in (
        λ y.
            let a₁ = and_l _ _ y in
            let a₂ = and_l _ _ a₁ in
            let status = and_l _ _ a₂ in
            let buffer = (buffer_test _ _).0 (and_r _ _ a₂) in
            let log = (log_test _).0 (and_r _ _ y) in
            record {
              member = if_so _ _ (and_l _ _ (and_l _ _ status));
              below = leb-true _ _ (and_r _ _ (and_l _ _ status));
              most = leb-true _ _ (and_r _ _ status);
              log = log.0;
              log_room = log.1;
              buffer = buffer.0;
              buffer_down = buffer.1;
              copies = λ g l. (copies_test i g).0 (all_at n (copies_pass i) (and_r _ _ a₁) g l);
            },
        λ v.
            both _ _ (both _ _ (both _ _
            (both _ _ (both _ _ (so_if _ _ v.member) (le-leb _ _ v.below)) (le-leb _ _ v.most))
            ((buffer_test _ _).1 (v.buffer, v.buffer_down)))
            (all_true n (copies_pass i) (λ g l. (copies_test i g).1 (v.copies g l))))
            ((log_test _).1 (v.log, v.log_room)),
      )

  -- ---- a sound store passes the test
  abbrev place_test : ℕ → Bool
  place_test = sound_place s.given s.ids (λ p. sound_brick s (s.ids p))

  place_passes : Sound s → (p : ℕ) → place_test p ≡ true
  unfolding sound_place alone
  place_passes v p =
      let b = v.bricks in
      let i = s.ids p in
      by_lt 0 i
      (λ _ l. or_r _ _ (both _ _
      (both _ _ (le-leb _ _ (b.born p)) (all_true p _ (λ q m. no (eqb (s.ids q) i) (λ e. omega (arith, b.apart p q (sym (eqb-true _ _ e)) l)))))
      ((brick_test i).1 (record {
        member = b.member_up i;
        below = v.numbers.below i;
        most = v.numbers.most i;
        log = v.logs i;
        log_room = v.log_room i;
        buffer = v.buffers i;
        buffer_down = v.buffer_down i;
        copies = λ g m. let k = v.buckets_ok g m in record { memory = k.memory i; disk = k.disk i; down = k.down i };
      }))))
      (λ _ l. or_l _ _ (eq-eqb i 0 (omega arith)))

  pub facts_sound : Sound s → sound s ≡ true
  unfolding sound sound_header sound_bag
  facts_sound v =
      both _ _ (both _ _ (both _ _ (both _ _ (both _ _ v.limits
      (both _ _ (both _ _ (both _ _ (le-leb _ _ v.bricks.few) (lt-ltb _ _ v.view_first)) (le-leb _ _ v.view_last)) (le-leb _ _ v.started)))
      (all_true _ place_test (λ p _. place_passes v p)))
      (all_true _ _ (λ g l. let k = v.buckets_ok g l in
      (bucket_test (s.bucket g)).1 (record { pair = k.pair; last = k.last; last_sent = k.last_sent; taken = k.taken }))))
      (both _ _ (le-leb _ _ v.bag_room) (every_of (sound_relay keys s.settings) s.bag (λ r m. (relay_test r).1 (v.relays r m)))))
      (all_true _ proxy_passes (λ p _. (proxy_test p).1 (record { known = v.known p; items = v.items p })))

  -- ---- a store that passes, with columns by place, is sound
  module _ (h : Placed s) where
    record Place (p : ℕ) : Type 0 where
      born : s.ids p ≤ s.given
      alone : (q : ℕ) → q < p → s.ids q ≡ s.ids p → ⊥
      brick : Brick (s.ids p)

    place_is : all_below s.settings.places place_test ≡ true → (p : ℕ) → 0 < s.ids p → Place p
    unfolding sound_place alone
    place_is y p l =
        let inside : p < s.settings.places = by_lt p s.settings.places (λ _ u. u) (λ _ u. absurd (omega (arith, h.beyond p u))) in
        let z = all_at _ place_test y p inside in
        let n : eqb (s.ids p) 0 ≡ false = by_eq (s.ids p) 0 (λ _ e. absurd (omega arith)) (λ q _. q) in
        let t = or_second _ _ z n in
        record {
          born = leb-true _ _ (and_l _ _ (and_l _ _ t));
          alone = λ q u e. is_no _ (all_at p _ (and_r _ _ (and_l _ _ t)) q u) (eq-eqb _ _ e);
          brick = (brick_test _).0 (and_r _ _ t);
        }

    -- an absent brick has all that is asked of one
    brick_blank : (i : ℕ) → s.bricks.present i ≡ false → Brick i
    brick_blank i n = record {
      member = λ y. clash (h.blank_member i n) y;
      below = omega (arith, h.blank_next i n);
      most = omega (arith, h.blank_ceiling i n);
      log = rw (h.blank_log i n) log_none;
      log_room = rw (h.blank_log i n) (omega arith);
      buffer = rw (h.blank_buffer i n) buffer_none;
      buffer_down = λ _. h.blank_buffer i n;
      copies = λ g _. record {
        memory = rw (h.blank_memory g i n) table_none;
        disk = rw (h.blank_disk g i n) table_none;
        down = λ _. h.blank_memory g i n ∙ sym (h.blank_disk g i n);
      };
    }

    here_first : (i : ℕ) → s.bricks.present i ≡ true → 0 < i
    here_first i y = by_lt 0 i (λ _ l. l) (λ _ l. let e : i ≡ 0 = omega arith in clash h.no_zero (rw e at y))

    pub sound_facts : sound s ≡ true → Sound s
    unfolding sound sound_header sound_bag
    sound_facts y =
        let a₁ = and_l _ _ y in
        let a₂ = and_l _ _ a₁ in
        let a₃ = and_l _ _ a₂ in
        let a₄ = and_l _ _ a₃ in
        let header = and_r _ _ a₄ in
        let bag = and_r _ _ a₁ in
        let place = place_is (and_r _ _ a₃) in
        let brick : (i : ℕ) → Brick i
        = λ i. by (s.bricks.present i)
        (λ z. let t = h.somewhere i z in rw t.2 at (place t.0 (omega (arith, here_first i z, t.2))).brick) (brick_blank i) in
        record {
          limits = and_l _ _ a₄;
          bricks = record {
            few = leb-true _ _ (and_l _ _ (and_l _ _ (and_l _ _ header)));
            beyond = h.beyond;
            born = λ p. by_lt 0 (s.ids p) (λ _ l. (place p l).born) (λ _ l. omega arith);
            apart = apart place;
            stands = h.stands;
            somewhere = h.somewhere;
            first = here_first;
            up_present = λ i. not_so _ _ (h.blank_up i);
            member_up = λ i. (brick i).member;
            began_here = λ i. not_so _ _ (h.blank_began i);
          };
          numbers = record { below = λ i. (brick i).below; most = λ i. (brick i).most; blank_next = h.blank_next; blank_ceiling = h.blank_ceiling };
          view_first = ltb-true _ _ (and_r _ _ (and_l _ _ (and_l _ _ header)));
          view_last = leb-true _ _ (and_r _ _ (and_l _ _ header));
          started = leb-true _ _ (and_r _ _ header);
          logs = λ i. (brick i).log;
          log_room = λ i. (brick i).log_room;
          log_blank = h.blank_log;
          buffers = λ i. (brick i).buffer;
          buffer_down = λ i. (brick i).buffer_down;
          buckets_ok = λ g l.
              let t = (bucket_test (s.bucket g)).0 (all_at _ (λ g. record_test (s.bucket g)) (and_r _ _ a₂) g l) in
              record {
                pair = t.pair;
                last = t.last;
                last_sent = t.last_sent;
                taken = t.taken;
                memory = λ i. ((brick i).copies g l).memory;
                disk = λ i. ((brick i).copies g l).disk;
                blank_memory = h.blank_memory g;
                blank_disk = h.blank_disk g;
                down = λ i. ((brick i).copies g l).down;
              };
          bag_room = leb-true _ _ (and_l _ _ bag);
          relays = λ r m. (relay_test r).0 (every_in (sound_relay keys s.settings) s.bag (and_r _ _ bag) r m);
          items = λ p. by_lt p proxies (λ _ l. (proxy p l).items) (λ _ l. rw (h.no_items p l) table_none);
          known = λ p. by_lt p proxies (λ _ l. (proxy p l).known) (λ _ l. omega (arith, h.no_known p l));
          no_bucket = h.no_bucket;
          no_items = h.no_items;
          no_known = h.no_known;
        }
      where
        proxy : (p : ℕ) → p < proxies → Proxy p
        proxy p l = (proxy_test p).0 (all_at _ proxy_passes (and_r _ _ y) p l)

        apart : ((p : ℕ) → 0 < s.ids p → Place p) → (p q : ℕ) → s.ids p ≡ s.ids q → 0 < s.ids p → p ≡ q
        apart place p q e l =
            by_lt p q (λ _ u. absurd ((place q (omega (arith, e))).alone p u e))
            (λ _ u. by_eq p q (λ _ z. z) (λ _ z. absurd ((place p l).alone q (omega arith) (sym e))))
