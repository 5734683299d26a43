-- The check: what its tests answer, that it is exact, and that one pass along the positions is enough.
use mathlib.Core.Path.{◌≡◌, refl, sym, ap, ◌∙◌}
use mathlib.Core.Logic.{◌≢◌}
use mathlib.Core.Bool.{true, false}
use mathlib.Core.List.{List}
use Prim.Native.Nat.{ℕ, ◌+◌, ◌*◌, ◌-◌, ◌≤◌, ◌<◌}
use native.Mathlib.Nat.{le_refl}
use native.Mathlib.Decide.{ℕ_discrete, dec_lt}
use native.Mathlib.Omega.{arith}
use lib.ListN.{length, take, drop, get_or, length-drop}
use lib.Seq.{get_or-take, get_or-drop, length-take-le}
use borrow.Author.Tests.{le-leb, lt-leb, lt-ltb, le-ltb, ltb-true, leb-true}
use Rattle.lists.specs.Tests.{◌and◌}
use Rattle.lists.proofs.Tests.{all_at, all_true, and_l, and_r, both, same_test}
use Rattle.lists.proofs.Ascending.{rising_from}
use Rattle.chunk_log.specs.Log.{Stored, key_at, write_log, read_log}
use Rattle.chunk_log.specs.Log.{row_key, row_saved, position_at, key_by, flag_at, below_at, rises_at, good_log, Ordered, LogWith, IsLog, KeyBound, Fits, Good}
use Rattle.chunk_log.specs.Log.{Lacks}
use Rattle.chunk_log.specs.Steps.{row_good, good_order}
use Rattle.chunk_log.proofs.Positions as order
use Rattle.chunk_log.proofs.Chunks.{length_read, read_key, reach, log_write}

module _ (L w : ℕ) (ws : List ℕ) (hl : length ws ≡ 1 + 3 * L + L * w) (few : get_or ws 0 0 ≤ L) (ix : Ordered L (get_or ws 0 0) ws)
    (k r : ℕ) (pl : KeyBound L (get_or ws 0 0) ws k r) where
  pub found_at : r < get_or ws 0 0 → key_by L ws r ≡ k → (position_at L ws r < length (read_log L w ws)) × (key_at (read_log L w ws) (position_at L ws r) ≡ k)
  found_at h e =
      (rw (length_read L w ws hl few) (ix.below r h), read_key L w ws hl few (position_at L ws r) (ix.below r h) ∙ e)

  pub found_none : (r < get_or ws 0 0 → key_by L ws r ≢ k) → Lacks (read_log L w ws) k
  found_none f i h e =
      let q : i < get_or ws 0 0 = rw (length_read L w ws hl few) at h in
      let m = reach L w ws hl few ix i q in
      let e1 : key_by L ws m.0 ≡ k = ap (row_key ws) m.2 ∙ sym (read_key L w ws hl few i q) ∙ e in
      side m.0 m.1 e1 (dec_lt m.0 r) (ℕ_discrete m.0 r)
    where
      side : (j : ℕ) → j < get_or ws 0 0 → key_by L ws j ≡ k → Dec (j < r) → Dec (j ≡ r) → ⊥
      side j h e (yes l) _ = let z = pl.before j l in omega arith
      side j h e (no l) (yes q) = f (rw q at h) (ap (key_by L ws) (sym q) ∙ e)
      side j h e (no l) (no q) =
          let a = pl.after r (le_refl r) (omega arith) in
          let b = ix.rising r j (omega arith) h in omega arith

-- ---- the check is exact
pub good_over : (L : ℕ) (ws : List ℕ) → L < get_or ws 0 0 → good_log L ws ≡ false
unfolding good_log ◌and◌
good_over L ws h = rw (lt-leb (get_or ws 0 0) L h)

pub is_log : (L w : ℕ) (ws : List ℕ) (len : ℕ) → len ≡ 8 * (1 + 3 * L + L * w) → good_log L ws ≡ true → IsLog L w ws len
unfolding good_log
is_log L w ws len e t =
    let n = get_or ws 0 0 in
    let t1 = and_l _ _ t in
    let t2 = and_l _ _ t1 in
    record {
      few = leb-true n L (and_l _ _ t2);
      size = e;
      flags = λ i h. leb-true (row_saved ws i) 1 (all_at n (flag_at ws) (and_r _ _ t2) i h);
      order = record {
        below = λ j h. ltb-true (position_at L ws j) n (all_at n (below_at L n ws) (and_r _ _ t1) j h);
        rising = rising_from (key_by L ws) n
            (λ i h. ltb-true (key_by L ws i) (key_by L ws (i + 1)) (all_at (n - 1) (rises_at L ws) (and_r _ _ t) i h));
      };
    }

pub good_of_log : (L w : ℕ) (ws : List ℕ) (len : ℕ) → IsLog L w ws len → good_log L ws ≡ true
unfolding good_log
good_of_log L w ws len o =
    let n = get_or ws 0 0 in
    both _ _ (both _ _ (both _ _ (le-leb n L o.few) (all_true n (flag_at ws) (λ i h. le-leb (row_saved ws i) 1 (o.flags i h))))
    (all_true n (below_at L n ws) (λ j h. lt-ltb (position_at L ws j) n (o.order.below j h))))
    (all_true (n - 1) (rises_at L ws)
    (λ j h. lt-ltb (key_by L ws j) (key_by L ws (j + 1)) (o.order.rising j (j + 1) (omega arith) (omega arith))))

-- good chunks make a log
pub good_write : (L w : ℕ) (ys : List Stored) (ws : List ℕ) → length ws ≡ 1 + 3 * L + L * w → Fits L w ys → Good ys
    → good_log L (write_log L ys ws) ≡ true
good_write L w ys ws hl fit g =
    good_of_log L w (write_log L ys ws) (8 * (1 + 3 * L + L * w)) (log_write L w ys ws hl fit g.flags g.distinct (8 * (1 + 3 * L + L * w)) refl)

-- marks do no harm
pub looser : {a b L w : ℕ} {ws : List ℕ} {len : ℕ} → a ≤ b → LogWith a L w ws len → LogWith b L w ws len
looser h o = record { few = o.few; size = o.size; flags = λ i q. let z = o.flags i q in omega arith; order = o.order }

-- ---- one pass along the positions is enough: each row is reached
reach_in : (n p : ℕ) (xs : List ℕ) (pos : ℕ → ℕ) → length xs ≡ n → ((i : ℕ) → i < n → get_or xs i 0 ≡ pos i) → order.Has p xs
    → (j : ℕ) × (j < n) × (pos j ≡ p)
reach_in n p xs pos len at has =
    let r = order.has_at has in
    let lr : r.0 < n = rw len at r.1 in
    (r.0, lr, sym (at r.0 lr) ∙ r.2)

reach_row : (L n : ℕ) (ws : List ℕ) → n ≤ L → 1 + 3 * L ≤ length ws → Ordered L n ws → (p : ℕ) → p < n
    → (j : ℕ) × (j < n) × (position_at L ws j ≡ p)
reach_row L n ws few room ix p h =
    let xs : List ℕ = take n (drop (1 + 2 * L) ws) in
    let len : length xs ≡ n = length-take-le n (drop (1 + 2 * L) ws) (rw length-drop (omega arith)) in
    let at : (i : ℕ) → i < n → get_or xs i 0 ≡ position_at L ws i = λ i q. get_or-take n (drop (1 + 2 * L) ws) i 0 q ∙ get_or-drop (1 + 2 * L) ws i 0 in
    let low : order.All (λ q. q < n) xs =
    order.all_of (λ q. q < n) xs (λ i q. let q2 : i < n = rw len at q in rw (at i q2) (ix.below i q2)) in
    let asc : order.Asc (row_key ws) xs =
    order.asc_of (row_key ws) xs (λ i j l q. let q2 : j < n = rw len at q in rw (at i (omega arith), at j q2) (ix.rising i j l q2)) in
    let has : order.Has p xs = rw (order.unique (row_key ws) n xs len low asc) (order.positions_has (row_key ws) n p h) in
    reach_in n p xs (position_at L ws) len at has

module _ (L n : ℕ) (ws : List ℕ) (e : n ≡ get_or ws 0 0) (few : n ≤ L) (room : 1 + 3 * L ≤ length ws) where
  there : good_log L ws ≡ true → good_order L n ws ≡ true
  unfolding good_order
  there t =
      let o = is_log L 0 ws (8 * (1 + 3 * L + L * 0)) refl t in
      both _ _
      (all_true n (row_good L n ws) (λ j h. let b : position_at L ws j < n = rw e (o.order.below j (rw (← e) h)) in
      both _ _ (lt-ltb (position_at L ws j) n b) (le-leb (row_saved ws (position_at L ws j)) 1 (o.flags (position_at L ws j) (rw (← e) b)))))
      (all_true (n - 1) (rises_at L ws)
      (λ j h. lt-ltb (key_by L ws j) (key_by L ws (j + 1)) (o.order.rising j (j + 1) (omega arith) (rw (← e) (omega arith)))))

  back : good_order L n ws ≡ true → good_log L ws ≡ true
  unfolding good_order
  back t =
      let good : (j : ℕ) → j < n → row_good L n ws j ≡ true = all_at n (row_good L n ws) (and_l _ _ t) in
      let ix : Ordered L n ws = record {
        below = λ j h. ltb-true (position_at L ws j) n (and_l _ _ (good j h));
        rising = rising_from (key_by L ws) n
            (λ i h. ltb-true (key_by L ws i) (key_by L ws (i + 1)) (all_at (n - 1) (rises_at L ws) (and_r _ _ t) i h));
      } in
      let flag : (i : ℕ) → i < n → row_saved ws i ≤ 1 = λ i h.
      let m = reach_row L n ws few room ix i h in
      rw m.2 at (leb-true (row_saved ws (position_at L ws m.0)) 1 (and_r _ _ (good m.0 m.1))) in
      good_of_log L 0 ws (8 * (1 + 3 * L + L * 0)) (record { few = rw e at few; size = refl; flags = λ i h. flag i (rw e h); order = rw e at ix })

  pub good_in_order : good_log L ws ≡ good_order L n ws
  good_in_order = same_test (good_log L ws) (good_order L n ws) there back

-- ---- what one turn of the pass tells
module _ (L n : ℕ) (ws : List ℕ) (j p : ℕ) (e : p ≡ position_at L ws j) where
  pub row_far : n ≤ p → row_good L n ws j ≡ false
  unfolding ◌and◌
  row_far h = rw (← e, le-ltb p n h)

  pub row_flag : p < n → 1 < row_saved ws p → row_good L n ws j ≡ false
  unfolding ◌and◌
  row_flag h f = rw (← e, lt-ltb p n h, lt-leb (row_saved ws p) 1 f)

  pub row_fine : p < n → row_saved ws p ≤ 1 → row_good L n ws j ≡ true
  unfolding ◌and◌
  row_fine h f = rw (← e, lt-ltb p n h, le-leb (row_saved ws p) 1 f)

  pub row_key_by : (k : ℕ) → k ≡ row_key ws p → k ≡ key_by L ws j
  row_key_by k g = g ∙ ap (row_key ws) e

module _ (L n : ℕ) (ws : List ℕ) where
  pub order_all : ((k : ℕ) → k < n → row_good L n ws k ≡ true) → ((k : ℕ) → k < n - 1 → rises_at L ws k ≡ true) → good_order L n ws ≡ true
  unfolding good_order
  order_all a b = both _ _ (all_true n (row_good L n ws) a) (all_true (n - 1) (rises_at L ws) b)
