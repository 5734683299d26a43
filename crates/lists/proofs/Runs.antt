-- Laws of runs and of arrays of records.
use mathlib.Core.Path.{◌≡◌, refl, sym, ap, ◌∙◌}
use mathlib.Core.List.{List, [], ◌∷◌, ◌++◌, append_assoc, Memᴰ}
use Prim.Native.Nat.{ℕ, zero, suc, ◌+◌, ◌*◌, ◌-◌, ◌≤◌, ◌<◌}
use native.Mathlib.Nat.{suc-mul, zero-mul, zero-add, not-suc-le-zero, le_of_suc-le-suc, le_of_lt, mul-le-mul_right}
use native.Mathlib.Numerals.{add-one}
use native.Mathlib.Omega.{arith}
use lib.ListN.{length, take, drop, get_or, set, replicate, length-append, length-drop, take-append-drop, get_or-append}
use lib.Seq.{take-take, take-add, take_all, take-append-le, drop-append-le, drop-cons, drop-drop, take_at, drop_at, set_split}
use lib.Seq.{paste, get_or-take, get_or-drop, length-take-le, take-append-add, drop-append-add}
use lib.Dec.{ltb}
use mathlib.Core.Bool.{Bool, true}
use borrow.Author.Tests.{ltb-true, lt-ltb}
use Rattle.lists.specs.Tests.{every, only}
use Rattle.lists.proofs.Tests.{by, and_l, and_r, both}
use Rattle.lists.specs.Runs.{run, on_run, nth_run, enc_all, Sized, none, more, Below}

-- record i of n lies within n records: the one fact on products that offsets need
pub fits_in : (size : ℕ) {i n : ℕ} → i < n → i * size + size ≤ n * size
fits_in size {i} {n} h = rw suc-mul at (mul-le-mul_right size h)

-- ---- a run
pub run_length : (a n : ℕ) (w : List ℕ) → a + n ≤ length w → length (run a n w) ≡ n
run_length a n w h = length-take-le n (drop a w) (rw length-drop (omega arith))

-- a run of a run, of the front, of the rest, of it all
pub run_of_run : (a n b k : ℕ) (w : List ℕ) → a + n ≤ length w → b + k ≤ n → run b k (run a n w) ≡ run (a + b) k w
run_of_run a n b k w h g =
    let l : length (take n (drop a w)) ≡ n = run_length a n w h in
    let e : drop b (drop a w) ≡ drop b (take n (drop a w)) ++ drop n (drop a w) =
    ap (drop b) (sym (take-append-drop n (drop a w))) ∙ drop-append-le b (take n (drop a w)) (drop n (drop a w)) (omega arith) in
    rw (← drop-drop b a w, e) (sym (take-append-le k (drop b (take n (drop a w))) (drop n (drop a w)) (rw length-drop (omega arith))))

pub run_front : (a k n : ℕ) (w : List ℕ) → n ≤ length w → a + k ≤ n → run a k (take n w) ≡ run a k w
run_front a k n w h g = rw zero-add at (run_of_run 0 n a k w (omega arith) g)

pub run_rest : (n a k : ℕ) (w : List ℕ) → run a k (drop n w) ≡ run (n + a) k w
run_rest n a k w = rw (drop-drop a n w)

pub run_all : (n : ℕ) (w : List ℕ) → length w ≡ n → take n w ≡ w
run_all n w h = take_all n w (omega arith)

-- an element of a run
pub run_at : (a n i : ℕ) (w : List ℕ) → i < n → get_or (run a n w) i 0 ≡ get_or w (a + i) 0
run_at a n i w h = get_or-take n (drop a w) i 0 h ∙ get_or-drop a w i 0

-- ---- one run changed
module _ (a k : ℕ) (f : List ℕ → List ℕ) where
  pub on_left : (x y : List ℕ) → a + k ≤ length x → on_run a k f (x ++ y) ≡ on_run a k f x ++ y
  unfolding on_run
  on_left x y h =
      rw (
        take-append-le a x y (omega arith),
        drop-append-le a x y (omega arith),
        take-append-le k (drop a x) y (rw length-drop (omega arith)),
        drop-append-le k (drop a x) y (rw length-drop (omega arith)),
      )
      (simp append_assoc)

  pub on_right : (n : ℕ) (x y : List ℕ) → length x ≡ n → on_run (n + a) k f (x ++ y) ≡ x ++ on_run a k f y
  unfolding on_run
  on_right n x y e = rw (← e, take-append-add x y a, drop-append-add x y a) (simp append_assoc)

  pub on_length : (w : List ℕ) → a + k ≤ length w → length (f (run a k w)) ≡ k → length (on_run a k f w) ≡ length w
  unfolding on_run
  on_length w h e = simp (length-append, e, length-drop, length-take-le a w (omega arith)) (omega arith)

  -- the run that was changed, and a run before or after it
  pub on_same : (w : List ℕ) → a + k ≤ length w → length (f (run a k w)) ≡ k → run a k (on_run a k f w) ≡ f (run a k w)
  unfolding on_run
  on_same w h e =
      rw (drop_at (take a w) (f (run a k w) ++ drop k (drop a w)) a (length-take-le a w (omega arith)))
      (take_at (f (run a k w)) (drop k (drop a w)) k e)

  pub on_before : (b n : ℕ) (w : List ℕ) → a + k ≤ length w → b + n ≤ a → run b n (on_run a k f w) ≡ run b n w
  unfolding on_run
  on_before b n w h g =
      let rest : List ℕ = f (run a k w) ++ drop k (drop a w) in
      let l : length (take a w) ≡ a = length-take-le a w (omega arith) in
      rw (drop-append-le b (take a w) rest (omega arith), take-append-le n (drop b (take a w)) rest (rw length-drop (omega arith)))
      (run_front b n a w (omega arith) g)

  pub on_after : (b n : ℕ) (w : List ℕ) → a + k ≤ length w → length (f (run a k w)) ≡ k → a + k ≤ b → run b n (on_run a k f w) ≡ run b n w
  unfolding on_run
  on_after b n w h e g =
      let l : length (take a w) ≡ a = length-take-le a w (omega arith) in
      let c : ℕ = b - (a + k) in
      let new : List ℕ = f (run a k w) in
      let s : b ≡ a + (k + c) = omega arith in
      let one : drop (a + (k + c)) (take a w ++ (new ++ drop k (drop a w))) ≡ drop c (drop k (drop a w)) =
      rw (l, e) at (drop-append-add (take a w) (new ++ drop k (drop a w)) (length new + c) ∙ drop-append-add new (drop k (drop a w)) c) in
      let two : drop c (drop k (drop a w)) ≡ drop (a + (k + c)) w = drop-drop c k (drop a w) ∙ drop-drop (k + c) a w in
      rw s (ap (take n) (one ∙ two))

-- an element before it
pub on_at_before : (a k : ℕ) (f : List ℕ → List ℕ) (w : List ℕ) (j : ℕ) → a ≤ length w → j < a → get_or (on_run a k f w) j 0 ≡ get_or w j 0
unfolding on_run
on_at_before a k f w j h p =
    get_or-append (take a w) (f (run a k w) ++ drop k (drop a w)) 0 j (rw (length-take-le a w h) p) ∙ get_or-take a w j 0 p

-- two changes that agree on the run
pub on_by : (a n : ℕ) (f g : List ℕ → List ℕ) (w : List ℕ) → f (run a n w) ≡ g (run a n w) → on_run a n f w ≡ on_run a n g w
unfolding on_run
on_by a n f g w e = rw e

-- a change that leaves the run as it is
pub on_id : (a n : ℕ) (f : List ℕ → List ℕ) (w : List ℕ) → f (run a n w) ≡ run a n w → on_run a n f w ≡ w
unfolding on_run
on_id a n f w e = rw (e, take-append-drop n (drop a w), take-append-drop a w)

-- one change of a run after another
pub on_twice : (a n : ℕ) (f g : List ℕ → List ℕ) (w : List ℕ) → a + n ≤ length w → length (f (run a n w)) ≡ n
    → on_run a n (λ x. g (f x)) w ≡ on_run a n g (on_run a n f w)
unfolding on_run
on_twice a n f g w h e =
    let la : length (take a w) ≡ a = length-take-le a w (omega arith) in
    let t = take_at (take a w) (f (run a n w) ++ drop n (drop a w)) a la in
    let d = drop_at (take a w) (f (run a n w) ++ drop n (drop a w)) a la in
    rw (t, d, take_at (f (run a n w)) (drop n (drop a w)) n e, drop_at (f (run a n w)) (drop n (drop a w)) n e)

-- a run changed within a run is one run changed, at the sum of the offsets
pub on_within : (a n b k : ℕ) (f : List ℕ → List ℕ) (w : List ℕ) → a + n ≤ length w → b + k ≤ n
    → on_run a n (on_run b k f) w ≡ on_run (a + b) k f w
unfolding on_run
on_within a n b k f w h hb =
    let whole : List ℕ = drop a w in
    let front : List ℕ = take n whole in
    let rest : List ℕ = drop n whole in
    let lf : length front ≡ n = length-take-le n whole (rw length-drop (omega arith)) in
    let ld : k ≤ length (drop b front) = rw (length-drop, lf) (omega arith) in
    let e1 : take b front ≡ take b whole = take-take b n whole (omega arith) in
    let e2 : drop b whole ≡ drop b front ++ rest = ap (drop b) (sym (take-append-drop n whole)) ∙ drop-append-le b front rest (omega arith) in
    let e3 : take k (drop b whole) ≡ take k (drop b front) = ap (take k) e2 ∙ take-append-le k (drop b front) rest ld in
    let e4 : drop k (drop b whole) ≡ drop k (drop b front) ++ rest = ap (drop k) e2 ∙ drop-append-le k (drop b front) rest ld in
    rw (take-add a b w, ← drop-drop b a w, e3, e4, e1) (simp append_assoc)

-- elements pasted over a run
pub paste_run : (d : List ℕ) (a : ℕ) (s : List ℕ) (n : ℕ) → paste d a s n ≡ on_run a n (λ _. take n s) d
unfolding on_run
paste_run d a s n = rw (drop-drop n a d, append_assoc)

-- ---- one element is a run of one
pub set_is : (w : List ℕ) (i v : ℕ) → i < length w → set w i v ≡ on_run i 1 (λ _. v ∷ []) w
unfolding on_run
set_is w i v h = rw (set_split w i v h, drop-drop 1 i w, add-one i)

-- one element of a run
pub on_set : (a n i v : ℕ) (w : List ℕ) → a + n ≤ length w → i < n → on_run a n (λ x. set x i v) w ≡ set w (a + i) v
on_set a n i v w h p =
    let l = run_length a n w h in
    let one : List ℕ → List ℕ = λ _. v ∷ [] in
    on_by a n (λ x. set x i v) (on_run i 1 one) w (set_is (run a n w) i v (omega arith)) ∙ on_within a n i 1 one w h (omega arith)
    ∙ sym (set_is w (a + i) v (omega arith))

-- ---- arrays of records
pub enc_all_append : {A : Type 0} (enc : A → List ℕ) (xs ys : List A) → enc_all enc (xs ++ ys) ≡ enc_all enc xs ++ enc_all enc ys
unfolding enc_all
enc_all_append enc [] ys = refl
enc_all_append enc (x ∷ xs) ys = rw (enc_all_append enc xs ys, append_assoc)

module _ {A : Type 0} (enc : A → List ℕ) (size : ℕ) where
  pub sized_take : (i : ℕ) {xs : List A} → Sized enc size xs → Sized enc size (take i xs)
  sized_take zero r = none
  sized_take (suc i) none = none
  sized_take (suc i) (more e r) = more e (sized_take i r)

  pub sized_only : (test : A → Bool) {xs : List A} → Sized enc size xs → Sized enc size (only test xs)
  unfolding only
  sized_only test none = none
  sized_only test (more {x} {xs} e r) = by (test x) (λ q. rw q (more e (sized_only test r))) (λ q. rw q (sized_only test r))

  pub sized_at : (i : ℕ) (d : A) {xs : List A} → Sized enc size xs → i < length xs → length (enc (get_or xs i d)) ≡ size
  sized_at i d none h = absurd (not-suc-le-zero h)
  sized_at zero d (more e r) h = e
  sized_at (suc i) d (more e r) h = sized_at i d r (le_of_suc-le-suc h)

  pub length_enc_all : {xs : List A} → Sized enc size xs → length (enc_all enc xs) ≡ length xs * size
  unfolding enc_all
  length_enc_all none = sym (zero-mul size)
  length_enc_all (more {x} {xs} e r) = rw (length-append (enc x) (enc_all enc xs), length_enc_all r, e, suc-mul) (omega arith)

  length_front : (i : ℕ) {xs : List A} → Sized enc size xs → i ≤ length xs → length (enc_all enc (take i xs)) ≡ i * size
  length_front i {xs} r h = rw (length_enc_all (sized_take i r), length-take-le i xs h)

  module _ (i : ℕ) {xs : List A} (r : Sized enc size xs) where
    parted : enc_all enc xs ≡ enc_all enc (take i xs) ++ enc_all enc (drop i xs)
    parted = ap (enc_all enc) (sym (take-append-drop i xs)) ∙ enc_all_append enc (take i xs) (drop i xs)

    pub take_enc_all : i ≤ length xs → take (i * size) (enc_all enc xs) ≡ enc_all enc (take i xs)
    take_enc_all h =
        ap (take (i * size)) parted ∙ take_at (enc_all enc (take i xs)) (enc_all enc (drop i xs)) (i * size) (length_front i r h)

    pub drop_enc_all : i ≤ length xs → drop (i * size) (enc_all enc xs) ≡ enc_all enc (drop i xs)
    drop_enc_all h =
        ap (drop (i * size)) parted ∙ drop_at (enc_all enc (take i xs)) (enc_all enc (drop i xs)) (i * size) (length_front i r h)

  -- part i is record i's encoding
  pub part_enc_all : (i : ℕ) (d : A) {xs : List A} → Sized enc size xs → i < length xs → nth_run size i (enc_all enc xs) ≡ enc (get_or xs i d)
  unfolding enc_all
  part_enc_all i d {xs} r h =
      rw (drop_enc_all i r (le_of_lt h), drop-cons xs i d h)
      (take_at (enc (get_or xs i d)) (enc_all enc (drop (suc i) xs)) size (sized_at i d r h))

  -- another record's encoding in the place of part i, as a loan of part i comes back
  pub put_enc_all : (i : ℕ) (a : A) {xs : List A} → Sized enc size xs → i < length xs
      → take (i * size) (enc_all enc xs) ++ (enc a ++ drop size (drop (i * size) (enc_all enc xs))) ≡ enc_all enc (set xs i a)
  unfolding enc_all
  put_enc_all i a {xs} r h =
      rw (
        drop-drop size (i * size) (enc_all enc xs),
        ← suc-mul i size,
        drop_enc_all (suc i) r h,
        take_enc_all i r (le_of_lt h),
        set_split xs i a h,
        enc_all_append enc (take i xs) (a ∷ drop (suc i) xs),
      )

  -- a change of part i is `set`
  pub on_record : (f : List ℕ → List ℕ) (g : A → A) (d : A) (i : ℕ) {xs : List A} → Sized enc size xs → i < length xs
      → f (enc (get_or xs i d)) ≡ enc (g (get_or xs i d))
      → on_run (i * size) size f (enc_all enc xs) ≡ enc_all enc (set xs i (g (get_or xs i d)))
  unfolding on_run
  on_record f g d i {xs} r h e = rw (part_enc_all i d r h, e) (put_enc_all i (g (get_or xs i d)) r h)

-- ---- elements below a bound
pub below_of : (n : ℕ) (s : List ℕ) → ((i : ℕ) → get_or s i 0 < n) → Below n s
below_of n [] h = none
below_of n (x ∷ s) h = more (h 0) (below_of n s (λ i. h (suc i)))

pub below_take : {n : ℕ} (k : ℕ) {l : List ℕ} → Below n l → Below n (take k l)
below_take zero h = none
below_take (suc k) none = none
below_take (suc k) (more h r) = more h (below_take k r)

pub below_drop : {n : ℕ} (k : ℕ) {l : List ℕ} → Below n l → Below n (drop k l)
below_drop zero h = h
below_drop (suc k) none = none
below_drop (suc k) (more h r) = below_drop k r

pub below_append : {n : ℕ} {k l : List ℕ} → Below n k → Below n l → Below n (k ++ l)
below_append none s = s
below_append (more h r) s = more h (below_append r s)

pub below_at : {n : ℕ} {l : List ℕ} → Below n l → (i : ℕ) → i < length l → get_or l i 0 < n
below_at none i h = absurd (not-suc-le-zero h)
below_at (more h r) zero q = h
below_at (more h r) (suc i) q = below_at r i (le_of_suc-le-suc q)

pub below_replicate : {n : ℕ} (k v : ℕ) → v < n → Below n (replicate k v)
below_replicate zero v h = none
below_replicate (suc k) v h = more h (below_replicate k v h)

pub below_enc_all : {A : Type 0} {n : ℕ} (enc : A → List ℕ) (xs : List A) → ((x : A) → Memᴰ x xs → Below n (enc x)) → Below n (enc_all enc xs)
unfolding enc_all
below_enc_all enc [] f = none
below_enc_all enc (x ∷ xs) f = below_append (f x (Memᴰ.head refl)) (below_enc_all enc xs (λ y m. f y (Memᴰ.tail m)))

-- the same as a test of every element
pub below_every : (n : ℕ) (l : List ℕ) → every (λ x. ltb x n) l ≡ true → Below n l
unfolding every
below_every n [] h = none
below_every n (x ∷ l) h = more (ltb-true x n (and_l _ _ h)) (below_every n l (and_r _ _ h))

pub every_below : {n : ℕ} {l : List ℕ} → Below n l → every (λ x. ltb x n) l ≡ true
unfolding every
every_below none = refl
every_below {n} (more {b} h r) = both _ _ (lt-ltb b n h) (every_below r)
