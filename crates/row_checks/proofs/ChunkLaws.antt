-- A log in one pass along its positions.
use mathlib.Core.Path.{◌≡◌, refl, sym, ap, ◌∙◌}
use mathlib.Core.List.{List, []}
use mathlib.Core.Bool.{Bool, true, false, cond}
use Prim.Native.Nat.{ℕ, zero, suc, ◌+◌, ◌*◌, ◌-◌, ◌/◌, ◌^◌, ◌≤◌, ◌<◌}
use native.Mathlib.Numerals.{add-one}
use native.Mathlib.Omega.{arith}
use lib.Dec.{ltb}
use lib.Bits.{bit_or, or_add_and, and_le_l, and_le_r, or_lt}
use lib.ListN.{length, get_or}
use borrow.Author.Tests.{lt-ltb, le-ltb, le-leb, ltb-true, leb-true}
use Rattle.lists.specs.Tests.{all_below}
use Rattle.lists.proofs.Tests.{by, by_eq, by_lt, clash, and_l, and_r, both, same_test, all_true, all_false, all_at, no_first, no_second, every_by, every_at}
use Rattle.lists.proofs.Lists.{get_or_map_in}
use Rattle.rules.specs.declared.settings.Settings.{Settings}
use Rattle.rules.specs.Numbers.{sequences, home_of, sequence_of}
use Rattle.rules.specs.Chunks.{Chunk, new_chunk}
use Rattle.chunk_log.specs.Log.{row_key, row_saved, position_at, key_by, rises_at, stored, to_chunk, read_log, log_dec, good_log, IsLog}
use Rattle.chunk_log.specs.Steps.{row_good, good_order}
use Rattle.chunk_log.proofs.Chunks.{length_read, read_key, reach}
use Rattle.chunk_log.proofs.Codec.{dec_length}
use Rattle.chunk_log.proofs.Check.{good_over, is_log, good_in_order, row_far, row_flag, row_fine, row_key_by, order_all}
use Rattle.rules.specs.Limits.{Limits}
use Rattle.layout.specs.Layout.{log_codec, log_words}
use Rattle.layout.proofs.Check.{log_sound as sound_of_good, log_keys}
use Rattle.row_checks.specs.Rows.{key_below}
use Rattle.row_checks.specs.Chunks.{Descent, KeyUnder, key_before, row_passes, log_sound}

-- ---- keys of one id
module _ (bounds : List ℕ) (key : ℕ) (y : key_below bounds key ≡ true) where
  -- from a key that passes down, all keys of its id pass
  pub passes_down : (k : ℕ) → home_of key * sequences ≤ k → k ≤ key → key_below bounds k ≡ true
  unfolding key_below
  passes_down k l h =
      let e : home_of k ≡ home_of key = omega arith in
      let s : sequence_of k ≤ sequence_of key = omega arith in
      let t : sequence_of key < get_or bounds (home_of key) 0 = ltb-true _ _ y in
      lt-ltb (sequence_of k) (get_or bounds (home_of k) 0) (rw e (omega arith))

  -- no brick has id 0
  pub has_home : get_or bounds 0 0 ≡ 0 → 0 < home_of key
  unfolding key_below
  has_home z =
      let t : sequence_of key < get_or bounds (home_of key) 0 = ltb-true _ _ y in
      by_eq (home_of key) 0 (λ _ q. absurd (omega (arith, rw (q, z) at t))) (λ _ q. omega arith)

-- ---- what one turn tells of the row at position j
module _ (good : ℕ → Bool) (L n : ℕ) (ws : List ℕ) (j p : ℕ) (e : p ≡ position_at L ws j) where
  pub pass_far : n ≤ p → row_passes good L n ws j ≡ false
  unfolding row_passes
  pass_far h = no_first _ _ (no_first _ _ (row_far L n ws j p e h))

  pub pass_flag : p < n → (s : ℕ) → s ≡ row_saved ws p → 1 < s → row_passes good L n ws j ≡ false
  unfolding row_passes
  pass_flag h s q f = no_first _ _ (no_first _ _ (row_flag L n ws j p e h (rw (← q) f)))

  module _ (k : ℕ) (ek : k ≡ row_key ws p) where
    same_key : k ≡ key_by L ws j
    same_key = row_key_by L n ws j p e k ek

    pub pass_key : good k ≡ false → row_passes good L n ws j ≡ false
    unfolding row_passes
    pass_key g = no_second _ _ (rw (← same_key) g)

-- ---- the pass is the log's test and a test of each key
-- keys above the one before, the first above 0
ascends : (L n : ℕ) (ws : List ℕ) (good : ℕ → Bool) → good 0 ≡ false → ((j : ℕ) → j < n → good (key_by L ws j) ≡ true)
    → ((j : ℕ) → suc j < n → key_by L ws j < key_by L ws (suc j)) → (j : ℕ) → j < n → key_before L ws j < key_by L ws j
unfolding key_before
ascends L n ws good z g r zero h = by_eq (key_by L ws 0) 0 (λ _ q. clash z (rw q at (g 0 h))) (λ _ q. omega arith)
ascends L n ws good z g r (suc j) h = r j h

-- ---- the pass from the last position to the first
-- the key at position i; past the last, above every key
unfoldable pub key_after : ℕ → ℕ → List ℕ → ℕ → ℕ
key_after L n ws i = cond (ltb i n) (key_by L ws i) (2 ^ 64)

-- the positions from i on pass, and the key at i is the one after the top
pub record Passing (good : ℕ → Bool) (L n : ℕ) (ws : List ℕ) (top i : ℕ) : Type 0 where
  pub inside : i ≤ n
  pub next : suc top ≡ key_after L n ws i
  pub rows : (k : ℕ) → i ≤ k → k < n → row_good L n ws k ≡ true
  pub rises : (k : ℕ) → i ≤ k → k < n → key_by L ws k < key_after L n ws (suc k)
  pub keys : (k : ℕ) → i ≤ k → k < n → good (key_by L ws k) ≡ true

module _ (good : ℕ → Bool) (L n : ℕ) (ws : List ℕ) where
  after_in : (i : ℕ) → i < n → key_after L n ws i ≡ key_by L ws i
  unfolding key_after
  after_in i h = rw (lt-ltb i n h)

  after_end : (i : ℕ) → n ≤ i → key_after L n ws i ≡ 2 ^ 64
  unfolding key_after
  after_end i h = rw (le-ltb i n h)

  pub pass_start : Passing good L n ws 0xffffffffffffffff n
  pass_start =
      record {
        inside = omega arith;
        next = sym (after_end n (omega arith));
        rows = λ k l h. absurd (omega arith);
        rises = λ k l h. absurd (omega arith);
        keys = λ k l h. absurd (omega arith);
      }

  falls : (j i : ℕ) → i ≡ suc j → key_by L ws i ≤ key_by L ws j → row_passes good L n ws i ≡ false
  unfolding row_passes key_before
  falls j i q h = rw q (no_first _ _ (no_second _ _ (le-ltb _ _ (rw q at h))))

  module _ (top i : ℕ) (v : Passing good L n ws top i) (p : 0 < i) (k : ℕ) (e : k ≡ key_by L ws (i - 1)) where
    -- a key above the top: not below the next
    pub pass_high : k < 2 ^ 64 → top < k → all_below n (row_passes good L n ws) ≡ false
    pass_high s h =
        by_lt i n (λ _ l. all_false n (row_passes good L n ws) i l (falls (i - 1) i (omega arith) (let q = after_in i l in omega (arith, v.next, q, e))))
        (λ _ l. let q = after_end i l in absurd (omega (arith, v.next, q)))

    module _ (floor r key flags : ℕ) (d : Descent L n ws floor (i - 1) r key flags) where
      -- a flag on the way is neither 0 nor 1
      pub pass_dirty : 1 < flags → all_below n (row_passes good L n ws) ≡ false
      unfolding row_passes
      pass_dirty h =
          by (all_below n (row_passes good L n ws)) (λ y.
          let o : flags ≤ 1 = d.dirty (λ j a b. leb-true _ _ (and_r _ _ (and_l _ _ (and_l _ _ (all_at n (row_passes good L n ws) y j (omega (arith, v.inside))))))) in
          absurd (omega arith)) (λ y. y)

      -- one position, and all that descend from it above a floor
      pub pass_turn : row_good L n ws (i - 1) ≡ true → k ≤ top → ((m : ℕ) → floor < m → m ≤ k → good m ≡ true) → flags ≤ 1
          → Passing good L n ws (key - 1) r
      pass_turn g h u f =
          let q : suc (key - 1) ≡ key = omega (arith, d.above) in
          let back : suc (i - 1) ≡ i = omega arith in
          let under : key ≤ k = omega (arith, d.under, e) in
          record {
            inside = omega (arith, v.inside, d.inside);
            next = q ∙ d.here ∙ sym (after_in r (omega (arith, v.inside, d.inside)));
            rows = λ j a b. by_lt j (i - 1) (λ _ l. row_fine L n ws j (position_at L ws j) refl (d.rows j a l) (d.clean f j a l))
                (λ _ l. by_eq j (i - 1) (λ _ q. rw q g) (λ _ q. v.rows j (omega arith) b));
            rises = λ j a b. by_lt j (i - 1) (λ _ l. rw (after_in (suc j) (omega (arith, v.inside))) (d.rises j a l))
                (λ _ l. by_eq j (i - 1) (λ _ q. rw (q, back, ← v.next, ← e) (omega arith)) (λ _ q. v.rises j (omega arith) b));
            keys = λ j a b. by_lt j (i - 1) (λ _ l. let t = d.range j a l in u _ t.0 (omega (arith, t.1, e)))
                (λ _ l. by_eq j (i - 1) (λ _ q. rw (q, ← e) (u k (omega (arith, d.above)) (omega arith))) (λ _ q. v.keys j (omega arith) b));
          }

  pub pass_end : (top : ℕ) → Passing good L n ws top 0 → good 0 ≡ false → all_below n (row_passes good L n ws) ≡ true
  unfolding row_passes
  pass_end top v z =
      let up : (j : ℕ) → suc j < n → key_by L ws j < key_by L ws (suc j) = λ j h. rw (after_in (suc j) h) at (v.rises j (omega arith) (omega arith)) in
      let fine : (j : ℕ) → j < n → good (key_by L ws j) ≡ true = λ j h. v.keys j (omega arith) h in
      all_true n (row_passes good L n ws)
      (λ j h. both _ _ (both _ _ (v.rows j (omega arith) h) (lt-ltb _ _ (ascends L n ws good z fine up j h))) (fine j h))

-- ---- down from a position, one at a time
module _ (L n : ℕ) (ws : List ℕ) (floor i : ℕ) where
  either_flag : (a b : ℕ) → bit_or a b ≤ 1 → (a ≤ 1) × (b ≤ 1)
  either_flag a b h = (omega (arith, or_add_and a b, and_le_r a b), omega (arith, or_add_and a b, and_le_l a b))

  both_flags : (a b : ℕ) → a ≤ 1 → b ≤ 1 → bit_or a b ≤ 1
  both_flags a b h l = let t : bit_or a b < 2 = or_lt 1 a b (omega arith) (omega arith) in omega arith

  descent_turn : (j k next key before flags : ℕ) → suc k ≡ j → Descent L n ws floor i j next before → floor < key
      → KeyUnder L n ws k next before key flags → Descent L n ws floor i k key flags
  descent_turn j k next key before flags back v h u =
      let flag : ℕ = row_saved ws (position_at L ws k) in
      let down : key_by L ws k < key_by L ws j = omega (arith, v.here, u.here, u.below) in
      record {
        inside = omega (arith, v.inside);
        here = u.here;
        above = h;
        under = omega (arith, v.under, u.below);
        rows = λ m a b. by_eq m k (λ _ q. rw q u.row) (λ _ q. v.rows m (omega arith) b);
        rises = λ m a b. by_eq m k (λ _ q. rw (q, back) down) (λ _ q. v.rises m (omega arith) b);
        range = λ m a b. by_eq m k (λ _ q. rw q (omega (arith, u.here), omega (arith, v.here, v.under, down))) (λ _ q. v.range m (omega arith) b);
        clean = λ o m a b. let two = either_flag before flag (rw u.gathered at o) in
            by_eq m k (λ _ q. rw q two.1) (λ _ q. v.clean two.0 m (omega arith) b);
        dirty = λ o. rw u.gathered (both_flags before flag (v.dirty (λ m a b. o m (omega arith) b)) (o k (omega arith) (omega (arith, v.inside))));
      }

  -- four keys, each below the one before it: the last is above the floor, so all are
  pub descent_four : (j next before a1 k1 f1 a2 k2 f2 a3 k3 f3 a4 k4 f4 : ℕ) → suc a1 ≡ j → suc a2 ≡ a1 → suc a3 ≡ a2 → suc a4 ≡ a3 → floor < k4
      → KeyUnder L n ws a1 next before k1 f1 → KeyUnder L n ws a2 k1 f1 k2 f2
      → KeyUnder L n ws a3 k2 f2 k3 f3 → KeyUnder L n ws a4 k3 f3 k4 f4
      → Descent L n ws floor i j next before → Descent L n ws floor i a4 k4 f4
  descent_four j next before a1 k1 f1 a2 k2 f2 a3 k3 f3 a4 k4 f4 e1 e2 e3 e4 h u1 u2 u3 u4 v =
      let v1 = descent_turn j a1 next k1 before f1 e1 v (omega (arith, u4.below, u3.below, u2.below)) u1 in
      let v2 = descent_turn a1 a2 k1 k2 f1 f2 e2 v1 (omega (arith, u4.below, u3.below)) u2 in
      let v3 = descent_turn a2 a3 k2 k3 f2 f3 e3 v2 (omega (arith, u4.below)) u3 in
      descent_turn a3 a4 k3 k4 f3 f4 e4 v3 h u4

abbrev no_chunk : Chunk
no_chunk = new_chunk 0 false []

module _ (c : Settings) (good : ℕ → Bool) (ws : List ℕ) where
  pub log_over : (n : ℕ) → n ≡ get_or ws 0 0 → c.chunks < n → log_sound c good ws ≡ false
  unfolding log_sound
  log_over n e h = no_first _ _ (good_over c.chunks ws (rw (← e) h))

  module _ (lim : Limits c) (hl : length ws ≡ log_words c) (zero_no : good 0 ≡ false) (n : ℕ) (e : n ≡ get_or ws 0 0) (few : n ≤ c.chunks) where
    few_here : get_or ws 0 0 ≤ c.chunks
    few_here = rw (← e) few

    key_of_row : (i : ℕ) → i < n → (get_or ((log_codec c).dec ws) i no_chunk).key ≡ row_key ws i
    unfolding log_dec
    key_of_row i h =
        let w : ℕ = c.size / 8 in
        let q : i < get_or ws 0 0 = rw (← e) h in
        let l : i < length (read_log c.chunks w ws) = rw (length_read c.chunks w ws hl few_here) q in
        ap (λ (x : Chunk). x.key) (get_or_map_in to_chunk (read_log c.chunks w ws) i no_chunk (stored 0 0 []) l)
        ∙ read_key c.chunks w ws hl few_here i q

    rows_in_log : length ((log_codec c).dec ws) ≡ n
    rows_in_log = dec_length c.chunks (c.size / 8) ws hl ∙ sym e

    there : log_sound c good ws ≡ true → all_below n (row_passes good c.chunks n ws) ≡ true
    unfolding log_sound row_passes
    there y =
        let L : ℕ = c.chunks in
        let o : IsLog L (c.size / 8) ws (8 * log_words c) = is_log L (c.size / 8) ws (8 * log_words c) refl (and_l _ _ y) in
        let below : (j : ℕ) → j < n → position_at L ws j < n = λ j h. rw e (o.order.below j (rw (← e) h)) in
        let fine : (j : ℕ) → j < n → good (key_by L ws j) ≡ true = λ j h.
        rw (key_of_row (position_at L ws j) (below j h)) at
        (every_at (λ (x : Chunk). good x.key) ((log_codec c).dec ws) no_chunk (log_keys good c lim ws hl (and_r _ _ y)) (position_at L ws j) (rw rows_in_log (below j h))) in
        let above : (j : ℕ) → j < n → key_before L ws j < key_by L ws j = ascends L n ws good zero_no fine
        (λ j h. o.order.rising j (suc j) (omega arith) (rw (← e) h)) in
        all_true n (row_passes good L n ws)
        (λ j h. both _ _ (both _ _ (both _ _ (lt-ltb _ _ (below j h)) (le-leb _ _ (o.flags (position_at L ws j) (rw (← e) (below j h)))))
        (lt-ltb _ _ (above j h))) (fine j h))

    back : all_below n (row_passes good c.chunks n ws) ≡ true → log_sound c good ws ≡ true
    unfolding log_sound row_passes key_before
    back y =
        let L : ℕ = c.chunks in
        let w : ℕ = c.size / 8 in
        let room : 1 + 3 * L ≤ length ws = rw hl (omega arith) in
        let each : (j : ℕ) → j < n → row_passes good L n ws j ≡ true = all_at n (row_passes good L n ws) y in
        let rises : (k : ℕ) → k < n - 1 → rises_at L ws k ≡ true = λ k h. rw (add-one k) (and_r _ _ (and_l _ _ (each (suc k) (omega arith)))) in
        let order : good_order L n ws ≡ true = order_all L n ws (λ j h. and_l _ _ (and_l _ _ (each j h))) rises in
        let whole : good_log L ws ≡ true = good_in_order L n ws e few room ∙ order in
        let o : IsLog L w ws (8 * log_words c) = is_log L w ws (8 * log_words c) refl whole in
        both _ _ whole (sound_of_good good c lim ws hl whole (every_by (λ (x : Chunk). good x.key) ((log_codec c).dec ws) no_chunk (λ i h.
        let q : i < n = rw rows_in_log at h in
        let m = reach L w ws hl few_here o.order i (rw (← e) q) in
        ap good (key_of_row i q ∙ ap (row_key ws) (sym m.2)) ∙ and_r _ _ (each m.0 (omega (arith, m.1))))))

    pub log_pass : log_sound c good ws ≡ all_below n (row_passes good c.chunks n ws)
    log_pass = same_test _ _ there back
