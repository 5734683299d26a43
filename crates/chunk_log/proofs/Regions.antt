-- Laws of a log's regions: words at the front of a region, words read and written in a region.
use mathlib.Core.Path.{◌≡◌, refl, sym, ap, ◌∙◌}
use mathlib.Core.List.{List, [], ◌∷◌, ◌++◌, append_assoc}
use Prim.Native.Nat.{ℕ, suc, ◌+◌, ◌*◌, ◌-◌, ◌≤◌, ◌<◌}
use native.Mathlib.Nat.{zero-add, suc-add}
use native.Mathlib.Numerals.{add-one}
use native.Mathlib.Omega.{arith}
use lib.ListN.{length, take, drop, get_or, set, length-append, length-drop, length-set, take-append-drop, get_or-append}
use lib.Seq.{paste, get_or-take, get_or-drop, take-append-add, drop-append-add, get_or-append-add, take-append-le, drop-append-le, take_at, drop_at}
use lib.Seq.{drop-drop, drop-paste, drop-cons, length-take-le, take-suc, set_at, set-append_left, drop-set-add}
use Rattle.chunk_log.specs.Log.{rows_in, positions_in, cells_in, lay, over, position_at}

-- ---- a region's front

pub over_self : (xs r : List ℕ) → xs ≡ take (length xs) r → over xs r ≡ r
unfolding over
over_self xs r e = ap (λ (l : List ℕ). l ++ drop (length xs) r) e ∙ take-append-drop (length xs) r

pub length_over : (xs r : List ℕ) → length xs ≤ length r → length (over xs r) ≡ length r
unfolding over
length_over xs r h = rw (length-append, length-drop) (omega arith)

pub over_at : (xs r : List ℕ) (j : ℕ) → j < length xs → get_or (over xs r) j 0 ≡ get_or xs j 0
unfolding over
over_at xs r j h = get_or-append xs (drop (length xs) r) 0 j h

pub over_two : (A R : List ℕ) (a b m : ℕ) → length A ≡ m → m + 2 ≤ length R → set (set (over A R) m a) (m + 1) b ≡ over (A ++ a ∷ b ∷ []) R
unfolding over
over_two A R a b m e h =
    let d : drop (length A) R ≡ get_or R m 0 ∷ get_or R (suc m) 0 ∷ drop (suc (suc m)) R =
    rw e (drop-cons R m 0 (omega arith) ∙ ap (λ (l : List ℕ). get_or R m 0 ∷ l) (drop-cons R (suc m) 0 (omega arith))) in
    let l : length (A ++ a ∷ b ∷ []) ≡ suc (suc m) = rw length-append (omega arith) in
    rw (d, l) (stores (get_or R m 0) (get_or R (suc m) 0) (drop (suc (suc m)) R))
  where
    flat : (Z : List ℕ) (y : ℕ) → (A ++ a ∷ []) ++ y ∷ Z ≡ A ++ a ∷ y ∷ Z
    flat Z y = simp append_assoc

    flat2 : (Z : List ℕ) → (A ++ a ∷ []) ++ b ∷ Z ≡ (A ++ a ∷ b ∷ []) ++ Z
    flat2 Z = simp append_assoc

    stores : (y z : ℕ) (Z : List ℕ) → set (set (A ++ y ∷ z ∷ Z) m a) (m + 1) b ≡ (A ++ a ∷ b ∷ []) ++ Z
    stores y z Z =
        let l : length (A ++ a ∷ []) ≡ m + 1 = rw length-append (omega arith) in
        rw (set_at A y (z ∷ Z) a m e, ← flat Z z, set_at (A ++ a ∷ []) z Z b (m + 1) l) (flat2 Z)

-- a word goes in at index p of the front
set_mid : (T D Z : List ℕ) (y q p : ℕ) → length T ≡ p → set ((T ++ y ∷ []) ++ D ++ Z) p q ≡ (T ++ q ∷ D) ++ Z
set_mid T D Z y q p e = simp append_assoc (set_at T y (D ++ Z) q p e)

pub over_insert : (A I : List ℕ) (p q m : ℕ) → length A ≡ m → m < length I → p ≤ m
    → set (paste (over A I) (p + 1) (drop p (over A I)) (m - p)) p q ≡ over (take p A ++ q ∷ drop p A) I
unfolding over
over_insert A I p q m e h hp =
    let Z : List ℕ = drop (suc m) I in
    let z : ℕ = get_or I m 0 in
    let d : drop (length A) I ≡ z ∷ Z = rw e (drop-cons I m 0 h) in
    let lx : length (A ++ z ∷ Z) ≡ m + (1 + length Z) = rw length-append (omega arith) in
    let e1 : drop p (A ++ z ∷ Z) ≡ drop p A ++ z ∷ Z = drop-append-le p A (z ∷ Z) (omega arith) in
    let e2 : take (m - p) (drop p A ++ z ∷ Z) ≡ drop p A = take_at (drop p A) (z ∷ Z) (m - p) (length-drop p A ∙ omega arith) in
    let g : p + 1 + (m - p) ≡ length A + 1 = omega arith in
    let e3 : drop (p + 1 + (m - p)) (A ++ z ∷ Z) ≡ Z = rw g (drop-append-add A (z ∷ Z) 1) in
    let e4 : take (p + 1) (A ++ z ∷ Z) ≡ take p A ++ get_or (A ++ z ∷ Z) p 0 ∷ [] =
    rw add-one (take-suc (A ++ z ∷ Z) p 0 (omega arith) ∙ ap (λ (l : List ℕ). l ++ get_or (A ++ z ∷ Z) p 0 ∷ []) (take-append-le p A (z ∷ Z) (omega arith))) in
    let l : length (take p A ++ q ∷ drop p A) ≡ suc m = simp (length-append, length-drop, length-take-le p A (omega arith)) (omega arith) in
    rw (d, e3, e4, e1, e2, l) (set_mid (take p A) (drop p A) Z (get_or (A ++ z ∷ Z) p 0) q p (length-take-le p A (omega arith)))

pub over_set : (A R : List ℕ) (j v : ℕ) → j < length A → set (over A R) j v ≡ over (set A j v) R
unfolding over
over_set A R j v h = rw (set-append_left A (drop (length A) R) j v h, length-set A j v)

pub drop_over : (A X : List ℕ) (j : ℕ) → length A ≤ j → drop j (over A X) ≡ drop j X
unfolding over
drop_over A X j h =
    let e : j ≡ length A + (j - length A) = omega arith in
    rw e (drop-append-add A (drop (length A) X) (j - length A) ∙ drop-drop (j - length A) (length A) X)

pub over_past : (A X : List ℕ) (j : ℕ) → length A ≤ j → get_or (over A X) j 0 ≡ get_or X j 0
over_past A X j h =
    let e : j ≡ j + 0 = omega arith in
    rw e (sym (get_or-drop j (over A X) 0 0) ∙ rw (drop_over A X j h) (get_or-drop j X 0 0))

set_append_add : (xs ys : List ℕ) (n a : ℕ) → set (xs ++ ys) (length xs + n) a ≡ xs ++ set ys n a
set_append_add [] ys n a = rw zero-add
set_append_add (x ∷ xs) ys n a = rw suc-add (ap (λ (r : List ℕ). x ∷ r) (set_append_add xs ys n a))

pub over_set_past : (A X : List ℕ) (j v : ℕ) → length A ≤ j → set (over A X) j v ≡ over A (set X j v)
unfolding over
over_set_past A X j v h =
    let e : j ≡ length A + (j - length A) = omega arith in
    rw e (set_append_add A (drop (length A) X) (j - length A) v ∙ ap (λ (l : List ℕ). A ++ l) (sym (drop-set-add (length A) X (j - length A) v)))

pub over_one : (A X : List ℕ) (v : ℕ) → length A < length X → set (over A X) (length A) v ≡ over (A ++ v ∷ []) X
unfolding over
over_one A X v h =
    let l : length (A ++ v ∷ []) ≡ suc (length A) = rw length-append (omega arith) in
    rw (drop-cons X (length A) 0 h, l, set_at A (get_or X (length A) 0) (drop (suc (length A)) X) v (length A) refl) (join (drop (suc (length A)) X))
  where
    join : (Z : List ℕ) → A ++ v ∷ Z ≡ (A ++ v ∷ []) ++ Z
    join Z = simp append_assoc

pub over_run : (B C s : List ℕ) (b k : ℕ) → length B ≡ b → k ≤ length s → paste (over B C) b s k ≡ over (B ++ take k s) C
unfolding over
over_run B C s b k eb h =
    let e1 : take b (B ++ drop (length B) C) ≡ B = take_at B (drop (length B) C) b eb in
    let g : b + k ≡ length B + k = omega arith in
    let e2 : drop (b + k) (B ++ drop (length B) C) ≡ drop (length B + k) C = rw g (drop-append-add B (drop (length B) C) k ∙ drop-drop k (length B) C) in
    let l : length (B ++ take k s) ≡ length B + k = rw (length-append, length-take-le k s h) in
    rw (e1, e2, l)

-- words after the front: part of it, or left as they are
pub over_next : (B C : List ℕ) (b k : ℕ) → length B ≡ b → b + k ≤ length C → over B C ≡ over (B ++ take k (drop b C)) C
unfolding over
over_next B C b k e h =
    let l : length (B ++ take k (drop b C)) ≡ b + k =
    rw (length-append, length-take-le k (drop b C) (rw length-drop (omega arith))) (omega arith) in
    let r : drop b C ≡ take k (drop b C) ++ drop (b + k) C = rw (← drop-drop k b C) (sym (take-append-drop k (drop b C))) in
    rw (l, e) (ap (λ (z : List ℕ). B ++ z) r ∙ sym (append_assoc B (take k (drop b C)) (drop (b + k) C)))

pub over_paste : (B C s : List ℕ) (b k : ℕ) → length B ≡ b → b ≤ length C → paste (over B C) b s k ≡ over B (paste C b s k)
unfolding over
over_paste B C s b k eb h =
    let e1 : take b (B ++ drop (length B) C) ≡ B = take_at B (drop (length B) C) b eb in
    let g : b + k ≡ length B + k = omega arith in
    let e2 : drop (b + k) (B ++ drop (length B) C) ≡ drop (b + k) C = rw g (drop-append-add B (drop (length B) C) k ∙ drop-drop k (length B) C) in
    let e3 : drop (length B) ((take b C ++ take k s) ++ drop (b + k) C) ≡ take k s ++ drop (b + k) C =
    rw (eb, append_assoc (take b C) (take k s) (drop (b + k) C)) (drop_at (take b C) (take k s ++ drop (b + k) C) b (length-take-le b C h)) in
    rw (e1, e2, e3) (append_assoc B (take k s) (drop (b + k) C))

same_past : (A X Y : List ℕ) → drop (length A) X ≡ drop (length A) Y → over A X ≡ over A Y
unfolding over
same_past A X Y e = ap (λ (l : List ℕ). A ++ l) e

-- written over twice
pub over_over : (A B X : List ℕ) → length B ≤ length A → over A (over B X) ≡ over A X
over_over A B X h = same_past A (over B X) X (drop_over B X (length A) h)

-- words that the front hides
pub over_hides : (A X s : List ℕ) (b k : ℕ) → b + k ≤ length A → b ≤ length X → k ≤ length s → over A (paste X b s k) ≡ over A X
over_hides A X s b k h hx hs =
    let e : length A ≡ b + k + (length A - (b + k)) = omega arith in
    same_past A (paste X b s k) X
    (rw e (sym (drop-drop (length A - (b + k)) (b + k) (paste X b s k)) ∙ rw (drop-paste X b s k hx hs) (drop-drop (length A - (b + k)) (b + k) X)))

-- ---- regions

regroup : (n : ℕ) (r i a b d : List ℕ) → ((n ∷ (r ++ i)) ++ a) ++ b ++ d ≡ n ∷ (r ++ (i ++ (a ++ b ++ d)))
regroup n r i a b d = simp append_assoc

regroup3 : (n : ℕ) (r a b d c : List ℕ) → (n ∷ (r ++ a)) ++ b ++ (d ++ c) ≡ n ∷ (r ++ ((a ++ b ++ d) ++ c))
regroup3 n r a b d c = simp append_assoc

module _ (n : ℕ) (r i c : List ℕ) where
  pub lay_row : (q j v : ℕ) → q ≡ suc j → j < length r → set (lay n r i c) q v ≡ lay n (set r j v) i c
  unfolding lay
  lay_row q j v e h = rw (e, set-append_left r (i ++ c) j v h)

  pub lay_row_at : (q j : ℕ) → q ≡ suc j → j < length r → get_or (lay n r i c) q 0 ≡ get_or r j 0
  unfolding lay
  lay_row_at q j e h = rw e (get_or-append r (i ++ c) 0 j h)

  pub lay_position_at : (q j : ℕ) → q ≡ suc (length r + j) → j < length i → get_or (lay n r i c) q 0 ≡ get_or i j 0
  unfolding lay
  lay_position_at q j e h = rw (e, get_or-append-add r (i ++ c) j 0) (get_or-append i c 0 j h)

  pub lay_position : (q j v : ℕ) → q ≡ suc (length r + j) → j < length i → set (lay n r i c) q v ≡ lay n r (set i j v) c
  unfolding lay
  lay_position q j v e h = rw e (ap (λ (l : List ℕ). n ∷ l) (beyond r))
    where
      beyond : (r : List ℕ) → set (r ++ (i ++ c)) (length r + j) v ≡ r ++ (set i j v ++ c)
      beyond [] = rw (zero-add, set-append_left i c j v h)
      beyond (x ∷ r) = rw suc-add (ap (λ (l : List ℕ). x ∷ l) (beyond r))

  pub lay_rows : (l : ℕ) → length r ≡ l → take l (drop 1 (lay n r i c)) ≡ r
  unfolding lay
  lay_rows l e = take_at r (i ++ c) l e

  lay_past_rows : (q : ℕ) → q ≡ suc (length r) → drop q (lay n r i c) ≡ i ++ c
  unfolding lay
  lay_past_rows q e = rw e (drop_at r (i ++ c) (length r) refl)

  pub lay_positions : (q l : ℕ) → q ≡ suc (length r) → length i ≡ l → take l (drop q (lay n r i c)) ≡ i
  lay_positions q l e f = rw (lay_past_rows q e) (take_at i c l f)

  lay_split : lay n r i c ≡ (n ∷ (r ++ i)) ++ c
  unfolding lay
  lay_split = simp append_assoc

  pub lay_past : (q b : ℕ) → q ≡ suc (length r + length i + b) → drop q (lay n r i c) ≡ drop b c
  lay_past q b e =
      let g : q ≡ length (n ∷ (r ++ i)) + b = e ∙ simp length-append (omega arith) in
      rw (lay_split, g) (drop-append-add (n ∷ (r ++ i)) c b)

  pub lay_cells : (q : ℕ) → q ≡ suc (length r + length i) → drop q (lay n r i c) ≡ c
  lay_cells q e = lay_past q 0 (omega arith)

  -- words of the cells written
  pub lay_paste : (q b k : ℕ) (s : List ℕ) → q ≡ suc (length r + length i + b) → paste (lay n r i c) q s k ≡ lay n r i (paste c b s k)
  unfolding lay
  lay_paste q b k s e =
      let g : q ≡ length (n ∷ (r ++ i)) + b = e ∙ simp length-append (omega arith) in
      let g2 : q + k ≡ length (n ∷ (r ++ i)) + (b + k) = omega arith in
      let t : take q (lay n r i c) ≡ (n ∷ (r ++ i)) ++ take b c = rw (lay_split, g) (take-append-add (n ∷ (r ++ i)) c b) in
      let d : drop (q + k) (lay n r i c) ≡ drop (b + k) c = rw (lay_split, g2) (drop-append-add (n ∷ (r ++ i)) c (b + k)) in
      rw (t, d) (regroup n r i (take b c) (take k s) (drop (b + k) c))

  -- positions from index p on moved up by one
  pub lay_shift : (q q' p k : ℕ) → q ≡ suc (length r + p) → q' ≡ suc (length r + (p + 1)) → p + 1 + k ≤ length i
      → paste (lay n r i c) q' (drop q (lay n r i c)) k ≡ lay n r (paste i (p + 1) (drop p i) k) c
  unfolding lay
  lay_shift q q' p k e e' h =
      let d0 : drop q (n ∷ (r ++ (i ++ c))) ≡ drop p i ++ c = rw e (drop-append-add r (i ++ c) p ∙ drop-append-le p i c (omega arith)) in
      let l0 : k ≤ length (drop p i) = rw length-drop (omega arith) in
      let t : take q' (n ∷ (r ++ (i ++ c))) ≡ n ∷ (r ++ take (p + 1) i) =
      rw e' (ap (λ (l : List ℕ). n ∷ l) (take-append-add r (i ++ c) (p + 1) ∙ ap (λ (l : List ℕ). r ++ l) (take-append-le (p + 1) i c (omega arith)))) in
      let g : q' + k ≡ suc (length r + (p + 1 + k)) = omega arith in
      let d : drop (q' + k) (n ∷ (r ++ (i ++ c))) ≡ drop (p + 1 + k) i ++ c =
      rw g (drop-append-add r (i ++ c) (p + 1 + k) ∙ drop-append-le (p + 1 + k) i c h) in
      rw (d0, t, d, take-append-le k (drop p i) c l0) (regroup3 n r (take (p + 1) i) (take k (drop p i)) (drop (p + 1 + k) i) c)

-- a log's words are their regions
module _ (L w : ℕ) (ws : List ℕ) (hl : length ws ≡ 1 + 3 * L + L * w) where
  pub length_rows : length (rows_in L ws) ≡ 2 * L
  length_rows = length-take-le (2 * L) (drop 1 ws) (rw length-drop (omega arith))

  pub length_positions : length (positions_in L ws) ≡ L
  length_positions = length-take-le L (drop (1 + 2 * L) ws) (rw length-drop (omega arith))

  pub length_cells : length (cells_in L ws) ≡ L * w
  length_cells = length-drop (1 + 3 * L) ws ∙ omega arith

  pub regions : ws ≡ lay (get_or ws 0 0) (rows_in L ws) (positions_in L ws) (cells_in L ws)
  unfolding lay
  regions =
      let e : 1 + 2 * L + L ≡ 1 + 3 * L = omega arith in
      let past : drop (1 + 2 * L) ws ≡ positions_in L ws ++ cells_in L ws =
      sym (take-append-drop L (drop (1 + 2 * L) ws)) ∙ rw (drop-drop L (1 + 2 * L) ws, e) in
      let rest : drop 1 ws ≡ rows_in L ws ++ (positions_in L ws ++ cells_in L ws) =
      sym (take-append-drop (2 * L) (drop 1 ws)) ∙ ap (λ (l : List ℕ). rows_in L ws ++ l) (drop-drop (2 * L) 1 ws ∙ past) in
      drop-cons ws 0 0 (omega arith) ∙ ap (λ (l : List ℕ). get_or ws 0 0 ∷ l) rest

  pub row_word : (i : ℕ) → i < 2 * L → get_or (rows_in L ws) i 0 ≡ get_or ws (1 + i) 0
  row_word i h = get_or-take (2 * L) (drop 1 ws) i 0 h ∙ get_or-drop 1 ws i 0

  pub position_word : (i : ℕ) → i < L → get_or (positions_in L ws) i 0 ≡ position_at L ws i
  position_word i h = get_or-take L (drop (1 + 2 * L) ws) i 0 h ∙ get_or-drop (1 + 2 * L) ws i 0
