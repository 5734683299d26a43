-- crash, lose, rise and join keep a store sound.
use mathlib.Core.Path.{◌≡◌, refl, sym, ap, ap₂, ◌∙◌}
use mathlib.Core.List.{List, []}
use mathlib.Core.Bool.{Bool, true, false, not}
use Prim.Native.Nat.{ℕ, suc, ◌≤◌, ◌<◌}
use native.Mathlib.Omega.{arith}
use lib.Dec.{eqb}
use lib.ListN.{length}
use borrow.Author.Tests.{eqb-true, eq-eqb, ltb-true}
use Rattle.lists.specs.Columns.{upd}
use Rattle.lists.proofs.Tests.{by, by_eq, by_lt, impossible, and_l, is_no, length_only}
use Rattle.lists.proofs.Columns.{upd_same, upd_other, upd_all, unflag, still_flagged, upd_up, upd_both, upd_blank}
use Rattle.rules.specs.declared.settings.Settings.{Settings}
use Rattle.rules.specs.Limits.{max_id}
use Rattle.rules.specs.Numbers.{sequences}
use Rattle.rules.specs.Entries.{Entry}
use Rattle.rules.specs.Chunks.{Chunk, only_saved}
use Rattle.rules.specs.State.{State, Bucket, blank_bucket, with_copies}
use Rattle.rules.specs.Derived.{is_empty}
use Rattle.rules.specs.Question.{AllYes}
use Rattle.rules.specs.Membership.{crash_asks, crashed_bucket, crash_effect, lose_asks, blanked_copies, lose_effect}
use Rattle.rules.specs.Membership.{rise_asks, rise_effect, join_asks, join_effect}
use Rattle.rules.proofs.Sound.{KeyOk, BufferOk, LogOk, NumbersOk, PairOk, KeyOf, Sound, key_stays}
use Rattle.rules.proofs.SoundTest.{table_none, buffer_none, log_none}
use Rattle.history.proofs.Sound.Lists.{log_only}
use Rattle.history.proofs.Sound.Groups.{new_flags, next_grows, LogsOk, logs_map, one_log, BuffersOk, buffers_map, CopyOk, CopiesOk}
use Rattle.history.proofs.Sound.Groups.{copies, bucket_ok, new_copies, BucketsOk, all_buckets, buckets_map, bag_map, items_map, groups, from_groups}

-- ---- a brick of which nothing is left, or that is new: it may be there, and up, or not
module _ (x : ℕ) (b : Bool) where
  blank_numbers : {present : ℕ → Bool} {next ceiling : ℕ → ℕ} → NumbersOk present next ceiling → NumbersOk (upd present x b) (upd next x 0) (upd ceiling x 0)
  blank_numbers {present} {next} {ceiling} v = record {
    below = lower;
    most = upd_all (λ _ m. m ≤ sequences) ceiling x 0 v.most (omega arith);
    blank_next = upd_both present b (λ _ m. m ≡ 0) next x 0 refl (λ i _. v.blank_next i);
    blank_ceiling = upd_both present b (λ _ m. m ≡ 0) ceiling x 0 refl (λ i _. v.blank_ceiling i);
  }
    where
      lower : (j : ℕ) → upd next x 0 j ≤ upd ceiling x 0 j
      lower j = unfold upd in by (eqb j x) (λ q. rw q (omega arith)) (λ q. rw q (v.below j))

  blank_logs : {K : ℕ → Type 0} {size chunks : ℕ} {present : ℕ → Bool} {log : ℕ → List Chunk} → LogsOk K size chunks present log
      → LogsOk K size chunks (upd present x b) (upd log x [])
  blank_logs {K} {size} {chunks} {present} {log} v = record {
    each = upd_all (λ _ m. LogOk K size m) log x [] v.each log_none;
    room = upd_all (λ _ m. length m ≤ chunks) log x [] v.room (omega arith);
    blank = upd_both present b (λ _ m. m ≡ []) log x [] refl (λ i _. v.blank i);
  }

  blank_buffers : {K : ℕ → Type 0} {up : ℕ → Bool} {buffer : ℕ → List Entry} → BuffersOk K up buffer → BuffersOk K (upd up x b) (upd buffer x [])
  blank_buffers {K} {up} {buffer} v = record {
    each = upd_all (λ _ m. BufferOk K m) buffer x [] v.each buffer_none;
    down = upd_both up b (λ _ m. m ≡ []) buffer x [] refl (λ i _. v.down i);
  }

  blank_copies_ok : {K : ℕ → Type 0} {count entries g : ℕ} {present up : ℕ → Bool} {memory disk : ℕ → List Entry}
      → CopiesOk K count entries present up g memory disk → CopiesOk K count entries (upd present x b) (upd up x b) g (upd memory x []) (upd disk x [])
  blank_copies_ok {K} {count} {entries} {g} {present} {up} {memory} {disk} v = record {
    memories = upd_all (λ _ m. CopyOk K count entries g m) memory x [] v.memories table_none;
    disks = upd_all (λ _ m. CopyOk K count entries g m) disk x [] v.disks table_none;
    blank_memory = upd_both present b (λ _ m. m ≡ []) memory x [] refl (λ i _. v.blank_memory i);
    blank_disk = upd_both present b (λ _ m. m ≡ []) disk x [] refl (λ i _. v.blank_disk i);
    down = upd_both up b (λ i m. m ≡ upd disk x [] i) memory x [] (sym (upd_same disk x [])) (λ i n d. v.down i d ∙ sym (upd_other disk x i [] n));
  }

  blank_buckets : {K : ℕ → Type 0} {c : Settings} {given : ℕ} {present up : ℕ → Bool} {bucket : ℕ → Bucket} (given' : ℕ) → given ≤ given'
      → BucketsOk K c given present up bucket → BucketsOk K c given' (upd present x b) (upd up x b) (λ g. blanked_copies x (bucket g))
  blank_buckets {given = given} given' u v =
      all_buckets v (blanked_copies x) (ap₂ (λ (m d : ℕ → List Entry). with_copies blank_bucket m d) (upd_blank [] x) (upd_blank [] x))
      (λ g o. bucket_ok (wider o.pair) (wider o.last) o.last_sent o.taken (blank_copies_ok (copies o)))
    where
      wider : {one two : ℕ} → PairOk given one two → PairOk given' one two
      wider p = record {
        one_first = p.one_first;
        one_born = omega (arith, p.one_born);
        two_first = p.two_first;
        two_born = omega (arith, p.two_born);
        apart = p.apart;
      }

-- a crash leaves what is on disk
crashed_copies : {K : ℕ → Type 0} {count entries g : ℕ} {present up : ℕ → Bool} {memory disk : ℕ → List Entry} (x : ℕ) → present x ≡ true
    → CopiesOk K count entries present up g memory disk → CopiesOk K count entries present (upd up x false) g (upd memory x (disk x)) disk
crashed_copies {K} {count} {entries} {g} {present} {up} {memory} {disk} x h v = record {
  memories = upd_all (λ _ m. CopyOk K count entries g m) memory x (disk x) v.memories (v.disks x);
  disks = v.disks;
  blank_memory = upd_up present (λ _ m. m ≡ []) memory x (disk x) h v.blank_memory;
  blank_disk = v.blank_disk;
  down = upd_both up false (λ i m. m ≡ disk i) memory x (disk x) refl (λ i _. v.down i);
}

-- a flag that implies another, where both change at one brick
upd_implies : (f h : ℕ → Bool) (x : ℕ) (b c : Bool) → (b ≡ true → c ≡ true) → ((i : ℕ) → f i ≡ true → h i ≡ true)
    → (i : ℕ) → upd f x b i ≡ true → upd h x c i ≡ true
unfolding upd
upd_implies f h x b c e o i = by (eqb i x) (λ q. rw q e) (λ q. rw q (o i))

-- what holds of down bricks holds where one more is up
risen : {P : ℕ → Type 0} (up : ℕ → Bool) (x : ℕ) → ((i : ℕ) → up i ≡ false → P i) → (i : ℕ) → upd up x true i ≡ false → P i
risen {P} up x h = upd_all (λ i m. m ≡ false → P i) up x true h (λ n. impossible (sym n))

module _ {s : State} (v : Sound s) where
  -- ---- crash
  pub crash_sound : (i : ℕ) → AllYes (crash_asks s i) → Sound (crash_effect s (s.ids i))
  unfolding crash_effect only_saved
  crash_sound i y =
      let k = s.bricks in
      let x = s.ids i in
      let b = v.bricks in
      let g = groups v in
      let present : k.present x ≡ true = b.up_present x (search) in
      let more : (j : ℕ) → KeyOf s j → KeyOk s.given k.present (upd k.next x (k.ceiling x)) j = λ j. next_grows x _ (v.numbers.below x) in
      let logs = logs_map g.logs more in
      from_groups (record {
        limits = v.limits;
        bricks = new_flags b (λ j m. b.up_present j (unflag k.up x j m).0)
            (upd_implies k.member k.up x false false impossible b.member_up) b.began_here;
        numbers = record {
          below = upd_all (λ j m. m ≤ k.ceiling j) k.next x (k.ceiling x) v.numbers.below (omega arith);
          most = v.numbers.most;
          blank_next = upd_up k.present (λ _ m. m ≡ 0) k.next x _ present v.numbers.blank_next;
          blank_ceiling = v.numbers.blank_ceiling;
        };
        view_first = v.view_first;
        view_last = v.view_last;
        started = v.started;
        logs = one_log logs x present (log_only (logs.each x) _) (omega (arith, length_only (λ (c : Chunk). c.saved) (k.log x), v.log_room x));
        buffers = blank_buffers x false (buffers_map g.buffers more);
        bucket = all_buckets (buckets_map g.bucket more) (crashed_bucket x)
            (ap (λ (m : ℕ → List Entry). with_copies blank_bucket m (λ i. [])) (upd_blank [] x)) (λ g o. new_copies o (crashed_copies x present (copies o)));
        bag = bag_map g.bag more;
        items = items_map g.items more;
        known = g.known;
      })

  -- ---- lose
  occupied : (i : ℕ) → not (is_empty s i) ≡ true → 0 < s.ids i
  occupied i y = by_lt 0 (s.ids i) (λ _ l. l) (λ _ l. absurd (is_no _ y (eq-eqb (s.ids i) 0 (omega arith))))

  -- a place that is not empty afterwards is another one
  left : (i p : ℕ) → 0 < upd s.ids i 0 p → (p ≡ i → ⊥) × (upd s.ids i 0 p ≡ s.ids p)
  unfolding upd
  left i p z = by_eq p i (λ q e. absurd (omega (arith, rw q at z))) (λ q e. (e, rw q))

  pub lose_sound : (i : ℕ) → AllYes (lose_asks s i) → Sound (lose_effect s i (s.ids i))
  unfolding lose_effect
  lose_sound i y =
      let k = s.bricks in
      let x = s.ids i in
      let b = v.bricks in
      let g = groups v in
      let first = occupied i (search) in
      let more : (j : ℕ) → KeyOf s j → KeyOk s.given (upd k.present x false) (upd k.next x 0) j
      = λ j. key_stays j (omega arith)
      (λ i _ z. let n = unflag k.present x i z in (n.0, omega (arith, upd_other k.next x i 0 n.1))) in
      from_groups (record {
        limits = v.limits;
        bricks = record {
          few = b.few;
          beyond = λ p u. upd_all (λ p m. s.settings.places ≤ p → m ≡ 0) s.ids i 0 b.beyond (λ _. refl) p u;
          born = upd_all (λ _ m. m ≤ s.given) s.ids i 0 b.born (omega arith);
          apart = λ p q e u. let t = left i p u in let w = left i q (rw e at u) in b.apart p q (sym t.1 ∙ e ∙ w.1) (rw t.1 at u);
          stands = λ p u.
              let t = left i p u in
              rw t.1 (still_flagged k.present x (s.ids p) (λ e. t.0 (b.apart p i e (omega (arith, e)))) (b.stands p (rw t.1 at u)));
          somewhere = λ j z.
              let n = unflag k.present x j z in
              let u = b.somewhere j n.0 in
              (u.0, u.1, rw (upd_other s.ids i u.0 0 (λ e. n.1 (sym u.2 ∙ ap s.ids e))) u.2);
          first = λ j z. b.first j (unflag k.present x j z).0;
          up_present = upd_implies k.up k.present x false false impossible b.up_present;
          member_up = upd_implies k.member k.up x false false impossible b.member_up;
          began_here = upd_implies k.began k.present x false false impossible b.began_here;
        };
        numbers = blank_numbers x false v.numbers;
        view_first = v.view_first;
        view_last = v.view_last;
        started = v.started;
        logs = blank_logs x false (logs_map g.logs more);
        buffers = blank_buffers x false (buffers_map g.buffers more);
        bucket = blank_buckets x false s.given (omega arith) (buckets_map g.bucket more);
        bag = bag_map g.bag more;
        items = items_map g.items more;
        known = g.known;
      })

  -- ---- rise
  pub rise_sound : (i : ℕ) → AllYes (rise_asks s i) → Sound (rise_effect s (s.ids i))
  unfolding rise_effect
  rise_sound i y =
      let k = s.bricks in
      let x = s.ids i in
      let b = v.bricks in
      let g = groups v in
      from_groups (record {
        limits = v.limits;
        bricks = new_flags b (upd_all (λ j m. m ≡ true → k.present j ≡ true) k.up x true b.up_present (λ _. b.stands i (occupied i (search and_l))))
            (upd_all (λ j m. k.member j ≡ true → m ≡ true) k.up x true b.member_up (λ _. refl)) b.began_here;
        numbers = v.numbers;
        view_first = v.view_first;
        view_last = v.view_last;
        started = v.started;
        logs = g.logs;
        buffers = record { each = v.buffers; down = risen k.up x v.buffer_down };
        bucket = all_buckets g.bucket (λ k. k) refl (λ g o. new_copies o (record {
          memories = o.memory;
          disks = o.disk;
          blank_memory = o.blank_memory;
          blank_disk = o.blank_disk;
          down = risen k.up x o.down;
        }));
        bag = g.bag;
        items = g.items;
        known = g.known;
      })

  -- ---- join
  abbrev fresh : ℕ
  fresh = suc s.given

  -- no place and no brick has the new id yet
  ids_old : (p : ℕ) → s.ids p ≡ fresh → ⊥
  ids_old p e = omega (arith, v.bricks.born p)

  join_apart : (i p q : ℕ) → upd s.ids i fresh p ≡ upd s.ids i fresh q → 0 < upd s.ids i fresh p → p ≡ q
  unfolding upd
  join_apart i p o =
      by_eq p i
      (λ q e. by_eq o i (λ t u. rw (q, t) (λ _ _. e ∙ sym u)) (λ t _. rw (q, t) (λ u _. absurd (ids_old o (sym u)))))
      (λ q e. by_eq o i (λ t u. rw (q, t) (λ u _. absurd (ids_old p u))) (λ t _. rw (q, t) (v.bricks.apart p o)))

  join_stands : (i p : ℕ) → 0 < upd s.ids i fresh p → upd s.bricks.present fresh true (upd s.ids i fresh p) ≡ true
  join_stands i p =
      upd_all (λ p m. 0 < m → upd s.bricks.present fresh true m ≡ true) s.ids i fresh
      (λ q u. rw (upd_other s.bricks.present fresh (s.ids q) true (ids_old q)) (v.bricks.stands q u)) (λ _. upd_same s.bricks.present fresh true) p

  join_somewhere : (i : ℕ) → i < s.settings.places → s.ids i ≡ 0 → (j : ℕ) → upd s.bricks.present fresh true j ≡ true
      → (p : ℕ) × (p < s.settings.places) × (upd s.ids i fresh p ≡ j)
  join_somewhere i u none =
      upd_all (λ j m. m ≡ true → (p : ℕ) × (p < s.settings.places) × (upd s.ids i fresh p ≡ j)) s.bricks.present fresh true
      (λ j z.
      let t = v.bricks.somewhere j z in
      (t.0, t.1, rw (upd_other s.ids i t.0 fresh (λ w. omega (arith, v.bricks.first j z, t.2, ap s.ids w))) t.2))
      (λ _. (i, u, upd_same s.ids i fresh))

  pub join_sound : (i : ℕ) → AllYes (join_asks s i) → Sound (join_effect s i)
  unfolding join_effect
  join_sound i y =
      let k = s.bricks in
      let x = fresh in
      let b = v.bricks in
      let g = groups v in
      let few : s.given < max_id = search ltb-true in
      let inside : i < s.settings.places = search ltb-true in
      let more : (j : ℕ) → KeyOf s j → KeyOk x (upd k.present x true) (upd k.next x 0) j
      = λ j. key_stays j (omega arith)
      (λ i l z.
      let old : i ≡ x → ⊥ = λ e. omega (arith, l) in
      (rw (upd_other k.present x i true old) at z, omega (arith, upd_other k.next x i 0 old))) in
      from_groups (record {
        limits = v.limits;
        bricks = record {
          few = few;
          beyond = λ p u. upd_other s.ids i p x (λ e. omega arith) ∙ b.beyond p u;
          born = upd_all (λ _ m. m ≤ x) s.ids i x (λ p. omega (arith, b.born p)) (omega arith);
          apart = join_apart i;
          stands = join_stands i;
          somewhere = join_somewhere i inside (search eqb-true);
          first = upd_all (λ j m. m ≡ true → 0 < j) k.present x true b.first (λ _. omega arith);
          up_present = upd_implies k.up k.present x true true (λ z. z) b.up_present;
          member_up = upd_implies k.member k.up x false true impossible b.member_up;
          began_here = upd_implies k.began k.present x false true impossible b.began_here;
        };
        numbers = blank_numbers x true v.numbers;
        view_first = v.view_first;
        view_last = v.view_last;
        started = v.started;
        logs = blank_logs x true (logs_map g.logs more);
        buffers = blank_buffers x true (buffers_map g.buffers more);
        bucket = blank_buckets x true x (omega arith) (buckets_map g.bucket more);
        bag = bag_map g.bag more;
        items = items_map g.items more;
        known = g.known;
      })
