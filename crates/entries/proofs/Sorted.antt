-- The rules' lists of entries by place: an entry found, put in, taken out, and blocks that ascend.
use mathlib.Core.Path.{◌≡◌, refl, sym, ap, ◌∙◌}
use mathlib.Core.Logic.{◌≢◌}
use mathlib.Core.Bool.{true, false, cond}
use mathlib.Core.List.{List, [], ◌∷◌, ◌++◌}
use Prim.Native.Nat.{ℕ, zero, suc, ◌≤◌, ◌<◌, suc-le-suc}
use native.Mathlib.Nat.{le_of_lt, le_refl, not-suc-le-zero, le_of_suc-le-suc}
use native.Mathlib.Omega.{arith}
use lib.ListN.{length, set}
use borrow.Author.Tests.{lt-ltb, le-ltb, le-leb, leb-true, ltb-true, eq-eqb, ne_eqb, eqb-true}
use Rattle.lists.specs.Tests.{◌or◌, any, only}
use Rattle.lists.proofs.Tests.{by, by_eq, by_lt, impossible, and_l, and_r, both, or_l, or_r, eqb_self}
use Rattle.rules.specs.Entries.{Entry, entry, key_for, has, insert, remove, takes, drain, ascending, insert_if_room}
use Rattle.rules.specs.Sound.{same_entries}
use Rattle.tables.specs.Tables.{insert_at, without_index}
use Rattle.entries.specs.Entries.{entry_at}

-- ---- look-up
module _ (b : ℕ) where
  pub key_for_at : (l : List Entry) (p : ℕ) → p < length l → ((j : ℕ) → j < p → (entry_at l j).block ≢ b) → (entry_at l p).block ≡ b → key_for l b ≡ (entry_at l p).key
  unfolding key_for
  key_for_at [] p h f e = absurd (not-suc-le-zero h)
  key_for_at (x ∷ l) zero h f e = rw (eq-eqb b x.block (sym e))
  key_for_at (x ∷ l) (suc p) h f e =
      rw (ne_eqb b x.block (λ q. f 0 (omega arith) (sym q))) (key_for_at l p (le_of_suc-le-suc h) (λ j q. f (suc j) (suc-le-suc q)) e)

  pub key_for_none : (l : List Entry) → ((j : ℕ) → j < length l → (entry_at l j).block ≢ b) → key_for l b ≡ 0
  unfolding key_for
  key_for_none [] f = refl
  key_for_none (x ∷ l) f = rw (ne_eqb b x.block (λ q. f 0 (omega arith) (sym q))) (key_for_none l (λ j q. f (suc j) (suc-le-suc q)))

  pub has_at : (l : List Entry) (p : ℕ) → p < length l → (entry_at l p).block ≡ b → has l b ≡ true
  unfolding has any
  has_at [] p h e = absurd (not-suc-le-zero h)
  has_at (x ∷ l) zero h e = or_l _ _ (eq-eqb b x.block (sym e))
  has_at (x ∷ l) (suc p) h e = or_r _ _ (has_at l p (le_of_suc-le-suc h) e)

  pub has_none : (l : List Entry) → ((j : ℕ) → j < length l → (entry_at l j).block ≢ b) → has l b ≡ false
  unfolding has any ◌or◌
  has_none [] f = refl
  has_none (x ∷ l) f = rw (ne_eqb b x.block (λ q. f 0 (omega arith) (sym q))) (has_none l (λ j q. f (suc j) (suc-le-suc q)))

  -- ---- an entry put in
  module _ (k : ℕ) where
    pub insert_gap : (l : List Entry) (p : ℕ) → p ≤ length l → ((j : ℕ) → j < p → (entry_at l j).block < b) → (p < length l → b < (entry_at l p).block)
        → insert l b k ≡ insert_at p (entry b k) l
    unfolding insert
    insert_gap [] zero h f g = refl
    insert_gap [] (suc p) h f g = absurd (not-suc-le-zero h)
    insert_gap (x ∷ l) zero h f g = rw (lt-ltb b x.block (g (omega arith)))
    insert_gap (x ∷ l) (suc p) h f g =
        let q = f 0 (omega arith) in
        rw (le-ltb b x.block (le_of_lt q), ne_eqb b x.block (λ z. omega arith))
        (ap (λ (r : List Entry). x ∷ r) (insert_gap l p (le_of_suc-le-suc h) (λ j i. f (suc j) (suc-le-suc i)) (λ i. g (suc-le-suc i))))

    pub insert_here : (l : List Entry) (p : ℕ) → p < length l → ((j : ℕ) → j < p → (entry_at l j).block < b) → (entry_at l p).block ≡ b
        → insert l b k ≡ set l p (entry b k)
    unfolding insert
    insert_here [] p h f e = absurd (not-suc-le-zero h)
    insert_here (x ∷ l) zero h f e = rw (le-ltb b x.block (omega arith), eq-eqb b x.block (sym e))
    insert_here (x ∷ l) (suc p) h f e =
        let q = f 0 (omega arith) in
        rw (le-ltb b x.block (le_of_lt q), ne_eqb b x.block (λ z. omega arith))
        (ap (λ (r : List Entry). x ∷ r) (insert_here l p (le_of_suc-le-suc h) (λ j i. f (suc j) (suc-le-suc i)) e))

  -- ---- an entry taken out
  pub remove_none : (l : List Entry) → ((j : ℕ) → j < length l → (entry_at l j).block ≢ b) → remove l b ≡ l
  unfolding remove only
  remove_none [] f = refl
  remove_none (x ∷ l) f =
      rw (ne_eqb b x.block (λ q. f 0 (omega arith) (sym q))) (ap (λ (r : List Entry). x ∷ r) (remove_none l (λ j q. f (suc j) (suc-le-suc q))))

  pub remove_here : (l : List Entry) (p : ℕ) → p < length l → ((j : ℕ) → j < length l → j ≢ p → (entry_at l j).block ≢ b) → (entry_at l p).block ≡ b
      → remove l b ≡ without_index p l
  unfolding remove only
  remove_here [] p h f e = absurd (not-suc-le-zero h)
  remove_here (x ∷ l) zero h f e =
      rw (eq-eqb b x.block (sym e)) (remove_none l (λ j q. f (suc j) (suc-le-suc q) (λ z. omega arith)))
  remove_here (x ∷ l) (suc p) h f e =
      rw (ne_eqb b x.block (λ q. f 0 (omega arith) (λ z. omega arith) (sym q)))
      (ap (λ (r : List Entry). x ∷ r) (remove_here l p (le_of_suc-le-suc h) (λ j q n. f (suc j) (suc-le-suc q) (λ z. n (omega arith))) e))

-- ---- blocks that ascend
pub ascending_at : (floor : ℕ) (l : List Entry) → ascending floor l ≡ true → (i : ℕ) → i < length l → floor ≤ (entry_at l i).block
unfolding ascending
ascending_at floor [] y i h = absurd (not-suc-le-zero h)
ascending_at floor (x ∷ l) y zero h = leb-true floor x.block (and_l _ _ y)
ascending_at floor (x ∷ l) y (suc i) h =
    let a = leb-true floor x.block (and_l _ _ y) in
    let z = ascending_at (suc x.block) l (and_r _ _ y) i (le_of_suc-le-suc h) in omega arith

pub ascending_rises : (floor : ℕ) (l : List Entry) → ascending floor l ≡ true → (i j : ℕ) → i < j → j < length l → (entry_at l i).block < (entry_at l j).block
unfolding ascending
ascending_rises floor [] y i j p h = absurd (not-suc-le-zero h)
ascending_rises floor (x ∷ l) y i zero p h = absurd (not-suc-le-zero p)
ascending_rises floor (x ∷ l) y zero (suc j) p h = ascending_at (suc x.block) l (and_r _ _ y) j (le_of_suc-le-suc h)
ascending_rises floor (x ∷ l) y (suc i) (suc j) p h = ascending_rises (suc x.block) l (and_r _ _ y) i j (le_of_suc-le-suc p) (le_of_suc-le-suc h)

pub ascending_of : (floor : ℕ) (l : List Entry) → ((i : ℕ) → i < length l → floor ≤ (entry_at l i).block)
    → ((i j : ℕ) → i < j → j < length l → (entry_at l i).block < (entry_at l j).block) → ascending floor l ≡ true
unfolding ascending
ascending_of floor [] f r = refl
ascending_of floor (x ∷ l) f r =
    both _ _ (le-leb floor x.block (f 0 (omega arith)))
    (ascending_of (suc x.block) l (λ i h. r 0 (suc i) (omega arith) (suc-le-suc h)) (λ i j p h. r (suc i) (suc j) (suc-le-suc p) (suc-le-suc h)))

-- ---- the same entries
pub same_self : (l : List Entry) → same_entries l l ≡ true
unfolding same_entries
same_self [] = refl
same_self (x ∷ l) = both _ _ (both _ _ (eqb_self x.block) (eqb_self x.key)) (same_self l)

pub same_is : (l m : List Entry) → same_entries l m ≡ true → l ≡ m
unfolding same_entries
same_is [] [] y = refl
same_is [] (x ∷ m) y = impossible y
same_is (x ∷ l) [] y = impossible y
same_is (x ∷ l) (z ∷ m) y =
    let b : x.block ≡ z.block = eqb-true _ _ (and_l _ _ (and_l _ _ y)) in
    let k : x.key ≡ z.key = eqb-true _ _ (and_r _ _ (and_l _ _ y)) in
    let r : l ≡ m = same_is l m (and_r _ _ y) in
    let f : entry x.block x.key ∷ l ≡ entry z.block z.key ∷ m = cc in f

-- ---- an entry put in keeps the order, and takes at most one more row
pub insert_ascends : (floor : ℕ) (l : List Entry) (b k : ℕ) → ascending floor l ≡ true → floor ≤ b → ascending floor (insert l b k) ≡ true
unfolding ascending insert
insert_ascends floor [] b k y h = both _ _ (le-leb floor b h) refl
insert_ascends floor (x ∷ l) b k y h =
    let f = and_l _ _ y in
    let r = and_r _ _ y in
    by_lt b x.block
    (λ q i. rw q (both _ _ (le-leb floor b h) (both _ _ (le-leb (suc b) x.block i) r)))
    (λ q i. rw q (by_eq b x.block
    (λ u e. rw u (both _ _ (le-leb floor b h) (rw e r)))
    (λ u e. rw u (both _ _ f (insert_ascends (suc x.block) l b k r (omega arith))))))

has_above : (floor : ℕ) (l : List Entry) (b : ℕ) → ascending floor l ≡ true → b < floor → has l b ≡ false
has_above floor l b y h = has_none b l (λ j q e. let z = ascending_at floor l y j q in omega arith)

pub insert_length : (floor : ℕ) (l : List Entry) (b k : ℕ) → ascending floor l ≡ true → length (insert l b k) ≡ cond (has l b) (length l) (suc (length l))
unfolding insert ascending has any ◌or◌
insert_length floor [] b k y = refl
insert_length floor (x ∷ l) b k y =
    let r = and_r _ _ y in
    by_lt b x.block
    (λ q i. let n : has l b ≡ false = has_above (suc x.block) l b r (omega arith) in
    rw (q, ne_eqb b x.block (λ e. omega arith), n))
    (λ q i. rw q (by_eq b x.block (λ u e. rw u)
    (λ u e. rw u (ap suc (insert_length (suc x.block) l b k r) ∙ by (has l b) (λ t. rw t) (λ t. rw t)))))

-- ---- entries taken in one after the other
module _ (most : ℕ) (l : List Entry) (e : Entry) (y : ascending 0 l ≡ true) where
  pub take_ascends : ascending 0 (insert_if_room most l e) ≡ true
  take_ascends =
      by (takes most l e.block) (λ q. rw q (insert_ascends 0 l e.block e.key y (omega arith))) (λ q. rw q y)

  pub take_grows : length l ≤ length (insert_if_room most l e)
  take_grows =
      by (takes most l e.block)
      (λ q. rw (q, insert_length 0 l e.block e.key y) (by (has l e.block) (λ t. rw t (le_refl (length l))) (λ t. rw t (omega arith))))
      (λ q. rw q (le_refl (length l)))

  pub take_few : length l ≤ most → length (insert_if_room most l e) ≤ most
  unfolding takes ◌or◌
  take_few h =
      by (takes most l e.block)
      (λ q. rw (q, insert_length 0 l e.block e.key y)
      (by (has l e.block) (λ t. rw t h) (λ t. let z : length l < most = ltb-true (length l) most (rw t at q) in rw t (omega arith))))
      (λ q. rw q h)

pub drain_more : (most : ℕ) (c l : List Entry) (e : Entry) → drain most c (l ++ e ∷ []) ≡ insert_if_room most (drain most c l) e
unfolding drain
drain_more most c [] e = refl
drain_more most c (x ∷ l) e = drain_more most (insert_if_room most c x) l e

module _ (most : ℕ) where
  pub drain_ascends : (c l : List Entry) → ascending 0 c ≡ true → ascending 0 (drain most c l) ≡ true
  unfolding drain
  drain_ascends c [] y = y
  drain_ascends c (e ∷ l) y = drain_ascends (insert_if_room most c e) l (take_ascends most c e y)

  pub drain_few : (c l : List Entry) → ascending 0 c ≡ true → length c ≤ most → length (drain most c l) ≤ most
  unfolding drain
  drain_few c [] y h = h
  drain_few c (e ∷ l) y h = drain_few (insert_if_room most c e) l (take_ascends most c e y) (take_few most c e y h)
