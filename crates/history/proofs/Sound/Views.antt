-- view, fetch and ready keep a store sound.
use mathlib.Core.Path.{◌≡◌, refl, sym}
use mathlib.Core.List.{List, [], Memᴰ}
use mathlib.Core.Bool.{Bool, true}
use Prim.Native.Nat.{ℕ, ◌+◌, ◌*◌, ◌≤◌, ◌<◌}
use native.Mathlib.Omega.{arith}
use lib.ListN.{length, get_or-eq_default}
use borrow.Author.Tests.{eqb-true, ltb-true}
use Rattle.lists.specs.Tests.{only, count_below}
use Rattle.lists.proofs.Tests.{either, and_l, count_one, count_two, count_at_most, only_in}
use Rattle.rules.specs.Limits.{buckets}
use Rattle.rules.specs.Entries.{Entry, is_of_bucket}
use Rattle.rules.specs.State.{State}
use Rattle.rules.specs.Pairs.{id_in, ids_of}
use Rattle.rules.specs.Derived.{is_up}
use Rattle.rules.specs.Question.{AllYes}
use Rattle.rules.specs.Views.{view_asks, last_pairs, view_pairs, view_effect, source, fetch_asks, fetch_effect, ready_asks, dropped, ready_effect}
use Rattle.rules.proofs.Derived.{in_ids}
use Rattle.rules.proofs.Sound.{PairOk, Sound}
use Rattle.rules.proofs.SoundTest.{table_none, buffer_none}
use Rattle.pairs.proofs.Facts.{pairs_length}
use Rattle.pairs.proofs.Counts.{assigned_length}
use Rattle.pairs.proofs.Members.{two_members, PairOf, pair_at}
use Rattle.history.proofs.Sound.Lists.{table_drain, buffer_only}
use Rattle.history.proofs.Sound.Groups.{new_flags, one_buffer, CopyOk, CopiesOk, one_memory, one_disk, copies, bucket_ok, one_bucket}
use Rattle.history.proofs.Sound.Groups.{groups, from_groups, new_parts, member_here}

-- ids that the pairs give a bucket are given
pub pair_ok : {most x y : ℕ} {f : ℕ → Bool} → PairOf most f x y → PairOk most x y
pair_ok p = record { one_first = p.one_first; one_born = p.one_most; two_first = p.two_first; two_born = p.two_most; apart = p.apart }

-- up bricks drop their copies
module _ {K : ℕ → Type 0} {count entries g : ℕ} {present up : ℕ → Bool} {memory disk : ℕ → List Entry} (c : CopiesOk K count entries present up g memory disk) where
  is_dropped : (P : List Entry → Type 0) (copies : ℕ → List Entry) (i : ℕ) → P [] → P (copies i) → P (dropped up copies i)
  unfolding dropped
  is_dropped P copies i none kept = either P (up i) (λ _. none) (λ _. kept)

  dropped_ok : CopiesOk K count entries present up g (dropped up memory) (dropped up disk)
  unfolding dropped
  dropped_ok = record {
    memories = λ i. is_dropped (CopyOk K count entries g) memory i table_none (c.memories i);
    disks = λ i. is_dropped (CopyOk K count entries g) disk i table_none (c.disks i);
    blank_memory = λ i n. is_dropped (λ l. l ≡ []) memory i refl (c.blank_memory i n);
    blank_disk = λ i n. is_dropped (λ l. l ≡ []) disk i refl (c.blank_disk i n);
    down = λ i n. rw n (c.down i n);
  }

module _ {s : State} (v : Sound s) where
  -- ---- view
  last_length : length (last_pairs s) ≡ 2 * buckets s.settings
  unfolding last_pairs
  last_length = assigned_length _ _ _

  -- the pair of each bucket: two different bricks are up
  view_pair : AllYes (view_asks s) → (g : ℕ) → g < buckets s.settings
      → PairOf s.given s.bricks.up (id_in (view_pairs s) (2 * g)) (id_in (view_pairs s) (2 * g + 1))
  unfolding view_pairs
  view_pair y g l =
      let n = s.settings.places in
      let b = v.bricks in
      let first : (p : ℕ) → is_up s p ≡ true → 0 < s.ids p = λ p z. b.first _ (b.up_present _ z) in
      let up_in : (p : ℕ) → is_up s p ≡ true → Memᴰ (s.ids p) (ids_of s.given s.bricks.up)
      = λ p z. in_ids s.given s.bricks.up (s.ids p) (first p z) (b.born p) z in
      let two : 1 < count_below n (is_up s) = search ltb-true in
      let t = count_one n (is_up s) (omega arith) in
      let u = count_two n (is_up s) t.0 two in
      let members = two_members s.given s.bricks.up (s.ids t.0) (s.ids u.0) (up_in t.0 t.2) (up_in u.0 u.2)
      (λ e. u.3 (sym (b.apart t.0 u.0 e (first t.0 t.2)))) in
      pair_at (buckets s.settings) s.given s.bricks.up members (last_pairs s) last_length g l

  -- beyond the buckets the positions are empty
  no_pair : (k : ℕ) → 2 * buckets s.settings ≤ k → id_in (view_pairs s) k ≡ 0
  unfolding view_pairs
  no_pair k l =
      let up = ids_of s.given s.bricks.up in
      get_or-eq_default (view_pairs s) 0 {n = k} (omega (arith, pairs_length (buckets s.settings) up (last_pairs s), last_length))

  pub view_sound : AllYes (view_asks s) → Sound (view_effect s)
  unfolding view_effect
  view_sound y =
      let b = v.bricks in
      let g = groups v in
      let assigned = view_pairs s in
      from_groups (record {
        limits = v.limits;
        bricks = new_flags b b.up_present (λ j m. m) b.up_present;
        numbers = v.numbers;
        view_first = omega arith;
        view_last = search ltb-true;
        started = count_at_most s.settings.places (is_up s);
        logs = g.logs;
        buffers = record { each = λ i. buffer_none; down = λ i _. refl };
        bucket = record {
          each = λ g l. let f = v.buckets_ok g l in bucket_ok (pair_ok (view_pair y g l)) f.last (omega arith) (omega arith) (copies f);
          none = λ g l. rw (v.no_bucket g l, no_pair (2 * g) (omega arith), no_pair (2 * g + 1) (omega arith)) refl;
        };
        bag = g.bag;
        items = g.items;
        known = g.known;
      })

  -- ---- fetch
  pub fetch_sound : (g : ℕ) → AllYes (fetch_asks s g) → Sound (fetch_effect s g)
  unfolding fetch_effect
  fetch_sound g y =
      let inside : g < buckets s.settings = search ltb-true in
      let k = s.bucket g in
      let x = k.primary in
      let present = member_here v x (search) in
      let up : s.bricks.up x ≡ true = search and_l in
      let f = v.buckets_ok g inside in
      let new = f.memory (source s g) in
      let c = one_disk (one_memory (copies f) x present up new) x present up new in
      let o = groups v in
      let bucket = one_bucket o.bucket g inside (bucket_ok f.pair f.last f.last_sent f.taken c) in
      new_parts v o.logs o.buffers bucket o.bag o.items o.known

  -- ---- ready
  pub ready_sound : (g : ℕ) → AllYes (ready_asks s g) → Sound (ready_effect s g)
  unfolding ready_effect
  ready_sound g y =
      let inside : g < buckets s.settings = search ltb-true in
      let k = s.bucket g in
      let x = k.primary in
      let z = k.backup in
      let waits = s.bricks.buffer x in
      let mine = is_of_bucket (buckets s.settings) g in
      let xh = member_here v x (search) in
      let xu : s.bricks.up x ≡ true = search and_l in
      let zh = member_here v z (search) in
      let zu : s.bricks.up z ≡ true = search and_l in
      let f = v.buckets_ok g inside in
      let drained = table_drain (only mine waits) (f.memory x) (λ e m.
      let t = only_in mine waits m in
      let w = (v.buffers x).each e t.0 in
      record { mine = eqb-true _ _ (unfold is_of_bucket in t.1); small = w.small; key = w.key }) in
      let backup = one_disk (one_memory (dropped_ok (copies f)) z zh zu (f.memory x)) z zh zu (f.memory x) in
      let c = one_disk (one_memory backup x xh xu drained) x xh xu (f.disk x) in
      let o = groups v in
      let bucket = one_bucket o.bucket g inside (bucket_ok f.pair f.pair f.last_sent f.taken c) in
      new_parts v o.logs (one_buffer o.buffers x xu (buffer_only _ (v.buffers x))) bucket o.bag o.items o.known
