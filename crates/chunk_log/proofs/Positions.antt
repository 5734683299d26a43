-- Positions in the order of their keys. `f i` is the key at position i.
-- A list of n positions below n along which the keys ascend strictly names every position, and is the only such list.
use mathlib.Core.Path.{◌≡◌, refl, sym, ap, ◌∙◌}
use mathlib.Core.Logic.{◌≢◌, ◌⊎◌, inl, inr, ⊎_elim}
use mathlib.Core.Bool.{Bool, true, false, cond}
use mathlib.Core.List.{List, [], ◌∷◌, ◌++◌}
use Prim.Native.Nat.{ℕ, zero, suc, ◌≤◌, ◌<◌, suc-le-suc}
use native.Mathlib.Nat.{not-suc-le-zero, le_of_suc-le-suc, lt_trans, le_of_lt, lt_of_le_of_lt}
use native.Mathlib.Omega.{arith}
use native.Mathlib.Decide.{ℕ_discrete}
use borrow.Author.Tests.{lt-ltb, le-ltb, eq-eqb, ne_eqb}
use lib.Dec.{eqb}
use lib.ListN.{length, take, drop, get_or}
use Rattle.lists.proofs.Tests.{by, by_eq, by_lt}
use Rattle.chunk_log.specs.Positions.{insert_position, positions}

-- ---- what is said of the elements of a list

pub data All (P : ℕ → Type 0) : List ℕ → Type 0 where
  none : All P []
  more : {x : ℕ} {xs : List ℕ} → P x → All P xs → All P (x ∷ xs)

pub data Asc (f : ℕ → ℕ) : List ℕ → Type 0 where
  flat : Asc f []
  rise : {x : ℕ} {xs : List ℕ} → All (λ q. f x < f q) xs → Asc f xs → Asc f (x ∷ xs)

pub data Has (p : ℕ) : List ℕ → Type 0 where
  here : {x : ℕ} {xs : List ℕ} → x ≡ p → Has p (x ∷ xs)
  there : {x : ℕ} {xs : List ℕ} → Has p xs → Has p (x ∷ xs)

pub all_map : {P Q : ℕ → Type 0} → ((x : ℕ) → P x → Q x) → {xs : List ℕ} → All P xs → All Q xs
all_map f none = none
all_map f (more {x} h r) = more (f x h) (all_map f r)

pub all_zip : {P Q R : ℕ → Type 0} → ((x : ℕ) → P x → Q x → R x) → {xs : List ℕ} → All P xs → All Q xs → All R xs
all_zip f none none = none
all_zip f (more {x} h r) (more g s) = more (f x h g) (all_zip f r s)

pub all_elem : {P : ℕ → Type 0} {xs : List ℕ} → All P xs → (i : ℕ) → i < length xs → P (get_or xs i 0)
all_elem none i h = absurd (not-suc-le-zero h)
all_elem (more h r) zero q = h
all_elem (more h r) (suc i) q = all_elem r i (le_of_suc-le-suc q)

pub all_of : (P : ℕ → Type 0) (xs : List ℕ) → ((i : ℕ) → i < length xs → P (get_or xs i 0)) → All P xs
all_of P [] h = none
all_of P (x ∷ xs) h = more (h 0 (omega arith)) (all_of P xs (λ i q. h (suc i) (suc-le-suc q)))

pub all_has : {P : ℕ → Type 0} {p : ℕ} {xs : List ℕ} → All P xs → Has p xs → P p
all_has (more h r) (here e) = rw e at h
all_has (more h r) (there k) = all_has r k
all_has {P = P} {p = p} none x3 = elim x3 [ ]

pub has_at : {p : ℕ} {xs : List ℕ} → Has p xs → (i : ℕ) × (i < length xs) × (get_or xs i 0 ≡ p)
has_at (here e) = (0, omega arith, e)
has_at (there h) = let r = has_at h in (suc r.0, suc-le-suc r.1, r.2)

module _ (f : ℕ → ℕ) where
  pub asc_of : (xs : List ℕ) → ((i j : ℕ) → i < j → j < length xs → f (get_or xs i 0) < f (get_or xs j 0)) → Asc f xs
  asc_of [] h = flat
  asc_of (x ∷ xs) h =
      rise (all_of (λ q. f x < f q) xs (λ j q. h 0 (suc j) (omega arith) (suc-le-suc q)))
      (asc_of xs (λ i j p q. h (suc i) (suc j) (suc-le-suc p) (suc-le-suc q)))

  pub asc_at : {xs : List ℕ} → Asc f xs → (i j : ℕ) → i < j → j < length xs → f (get_or xs i 0) < f (get_or xs j 0)
  asc_at flat i j p q = absurd (not-suc-le-zero q)
  asc_at (rise a r) i zero p q = absurd (not-suc-le-zero p)
  asc_at (rise a r) zero (suc j) p q = all_elem a j (le_of_suc-le-suc q)
  asc_at (rise a r) (suc i) (suc j) p q = asc_at r i j (le_of_suc-le-suc p) (le_of_suc-le-suc q)

  -- two positions of an ascending list have two keys
  pub asc_apart : {p q : ℕ} {xs : List ℕ} → Asc f xs → Has p xs → Has q xs → p ≢ q → f p ≢ f q
  asc_apart (rise a r) (here e) (here g) n k = n (sym e ∙ g)
  asc_apart (rise a r) (here e) (there h) n k = let l : _ = all_has a h in let z = ap f e in omega arith
  asc_apart (rise a r) (there h) (here e) n k = let l : _ = all_has a h in let z = ap f e in omega arith
  asc_apart (rise a r) (there h) (there g) n k = asc_apart r h g n k
  asc_apart {p = p} {q = q} flat x9 _ n k = elim x9 [ ]

-- ---- a position taken out

unfoldable del : ℕ → List ℕ → List ℕ
del p [] = []
del p (q ∷ qs) = cond (eqb q p) qs (q ∷ del p qs)

seek : (p : ℕ) (xs : List ℕ) → Has p xs ⊎ All (λ q. q ≢ p) xs
seek p [] = inr none
seek p (x ∷ xs) = go (ℕ_discrete x p) (seek p xs)
  where
    go : Dec (x ≡ p) → Has p xs ⊎ All (λ q. q ≢ p) xs → Has p (x ∷ xs) ⊎ All (λ q. q ≢ p) (x ∷ xs)
    go (yes e) r = inl (here e)
    go (no n) (inl h) = inl (there h)
    go (no n) (inr h) = inr (more n h)

all_del : {P : ℕ → Type 0} (p : ℕ) {xs : List ℕ} → All P xs → All P (del p xs)
unfolding del
all_del p none = none
all_del p (more {x} {xs} h r) =
    by_eq x p (λ _ e. rw (eq-eqb x p e) r) (λ _ n. rw (ne_eqb x p n) (more h (all_del p r)))

module _ (f : ℕ → ℕ) (p : ℕ) where
  asc_del : {xs : List ℕ} → Asc f xs → Asc f (del p xs)
  unfolding del
  asc_del flat = flat
  asc_del (rise {x} {xs} a r) =
      by_eq x p (λ _ e. rw (eq-eqb x p e) r) (λ _ n. rw (ne_eqb x p n) (rise (all_del p a) (asc_del r)))

  -- the rest is below p
  below_del : {xs : List ℕ} → Asc f xs → All (λ q. q < suc p) xs → All (λ q. q < p) (del p xs)
  unfolding del
  below_del flat none = none
  below_del (rise {x} {xs} a r) (more h b) =
      by_eq x p (λ _ e. rw (eq-eqb x p e) (all_zip (apart e) b a)) (λ _ n. let l : x < p = omega arith in rw (ne_eqb x p n) (more l (below_del r b)))
    where
      apart : (e : x ≡ p) (q : ℕ) → q < suc p → f x < f q → q < p
      apart e q l m =
          by_eq q p (λ _ g. let z : f x ≡ f q = ap f (e ∙ sym g) in absurd (omega arith)) (λ _ g. omega arith)

  length_del : {xs : List ℕ} → Has p xs → length xs ≡ suc (length (del p xs))
  unfolding del
  length_del (here {x} e) = rw (eq-eqb x p e)
  length_del (there {x} h) = by_eq x p (λ _ e. rw (eq-eqb x p e)) (λ _ n. rw (ne_eqb x p n, length_del h))

  -- and put back
  front : {xs : List ℕ} → All (λ q. f p < f q) xs → insert_position f p xs ≡ p ∷ xs
  unfolding insert_position
  front none = refl
  front (more {x} h r) = rw (le-ltb (f x) (f p) (omega arith))

  insert_del : {xs : List ℕ} → Asc f xs → Has p xs → insert_position f p (del p xs) ≡ xs
  unfolding insert_position del
  insert_del (rise {x} {xs} a r) (here e) = rw (eq-eqb x p e) (front (rw e at a) ∙ ap (λ (y : ℕ). y ∷ xs) (sym e))
  insert_del (rise {x} {xs} a r) (there h) =
      by_eq x p (λ _ e. let l : f x < f p = all_has a h in let z = ap f e in absurd (omega arith))
      (λ _ n. rw (ne_eqb x p n, lt-ltb (f x) (f p) (all_has a h), insert_del r h))
  insert_del flat x3 = elim x3 [ ]

-- ---- the pigeonhole, and that there is one such list

module _ (f : ℕ → ℕ) where
  not_last : {n : ℕ} {xs : List ℕ} → All (λ q. q < suc n) xs → All (λ q. q ≢ n) xs → All (λ q. q < n) xs
  not_last {n} = all_zip (λ q l m. by_eq q n (λ _ g. absurd (m g)) (λ _ g. omega arith))

  pub few : (n : ℕ) (xs : List ℕ) → All (λ q. q < n) xs → Asc f xs → length xs ≤ n
  few zero xs none a = omega arith
  few zero xs (more h r) a = absurd (not-suc-le-zero h)
  few (suc n) xs b a =
      ⊎_elim
      (λ h. let l = few n (del n xs) (below_del f n a b) (asc_del f n a) in let e = length_del f n h in omega arith)
      (λ h. let l = few n xs (not_last b h) a in omega arith)
      (seek n xs)

  pub unique : (n : ℕ) (xs : List ℕ) → length xs ≡ n → All (λ q. q < n) xs → Asc f xs → xs ≡ positions f n
  unfolding positions
  unique zero [] e b a = refl
  unique zero (x ∷ xs) e b a = absurd (omega arith)
  unique (suc n) xs e b a =
      ⊎_elim
      (λ h. let l = length_del f n h in
      let r : del n xs ≡ positions f n = unique n (del n xs) (omega arith) (below_del f n a b) (asc_del f n a) in
      sym (insert_del f n a h) ∙ ap (insert_position f n) r)
      (λ h. let l = few n xs (not_last b h) a in absurd (omega arith))
      (seek n xs)

-- ---- the positions by ascending key

module _ (f : ℕ → ℕ) where
  pub length_insert : (p : ℕ) (xs : List ℕ) → length (insert_position f p xs) ≡ suc (length xs)
  unfolding insert_position
  length_insert p [] = refl
  length_insert p (x ∷ xs) =
      by_lt (f x) (f p) (λ _ h. rw (lt-ltb (f x) (f p) h, length_insert p xs)) (λ _ h. rw (le-ltb (f x) (f p) (omega arith)))

  all_insert : {P : ℕ → Type 0} (p : ℕ) {xs : List ℕ} → P p → All P xs → All P (insert_position f p xs)
  unfolding insert_position
  all_insert p g none = more g none
  all_insert p g (more {x} {xs} h r) =
      by_lt (f x) (f p) (λ _ l. rw (lt-ltb (f x) (f p) l) (more h (all_insert p g r)))
      (λ _ l. rw (le-ltb (f x) (f p) (omega arith)) (more g (more h r)))

  asc_insert : (p : ℕ) {xs : List ℕ} → All (λ q. f q ≢ f p) xs → Asc f xs → Asc f (insert_position f p xs)
  unfolding insert_position
  asc_insert p none flat = rise none flat
  asc_insert p (more n s) (rise {x} {xs} a r) =
      by_lt (f x) (f p) (λ _ l. rw (lt-ltb (f x) (f p) l) (rise (all_insert p l a) (asc_insert p s r)))
      (λ _ l. by_eq (f x) (f p) (λ _ e. absurd (n e))
      (λ _ e. let g : f p < f x = omega arith in
      rw (le-ltb (f x) (f p) (omega arith)) (rise (more g (all_map (λ q m. lt_trans g m) a)) (rise a r))))

  has_self : (p : ℕ) (xs : List ℕ) → Has p (insert_position f p xs)
  unfolding insert_position
  has_self p [] = here refl
  has_self p (x ∷ xs) =
      by_lt (f x) (f p) (λ _ h. rw (lt-ltb (f x) (f p) h) (there (has_self p xs)))
      (λ _ h. rw (le-ltb (f x) (f p) (omega arith)) (here refl))

  has_insert : (p : ℕ) {q : ℕ} {xs : List ℕ} → Has q xs → Has q (insert_position f p xs)
  unfolding insert_position
  has_insert p (here {x} {xs} e) =
      by_lt (f x) (f p) (λ _ h. rw (lt-ltb (f x) (f p) h) (here e))
      (λ _ h. rw (le-ltb (f x) (f p) (omega arith)) (there (here e)))
  has_insert p (there {x} {xs} k) =
      by_lt (f x) (f p) (λ _ h. rw (lt-ltb (f x) (f p) h) (there (has_insert p k)))
      (λ _ h. rw (le-ltb (f x) (f p) (omega arith)) (there (there k)))

  pub length_positions : (n : ℕ) → length (positions f n) ≡ n
  unfolding positions
  length_positions zero = refl
  length_positions (suc n) = length_insert n (positions f n) ∙ ap suc (length_positions n)

  pub positions_below : (n : ℕ) → All (λ q. q < n) (positions f n)
  unfolding positions
  positions_below zero = none
  positions_below (suc n) = all_insert n (omega arith) (all_map (λ q l. omega arith) (positions_below n))

  -- every position is there
  pub positions_has : (n p : ℕ) → p < n → Has p (positions f n)
  unfolding positions
  positions_has zero p h = absurd (not-suc-le-zero h)
  positions_has (suc n) p h =
      by_eq p n (λ _ e. rw e (has_self n (positions f n))) (λ _ e. has_insert n (positions_has n p (omega arith)))

  pub positions_asc : (n : ℕ) → ((i j : ℕ) → i < j → j < n → f i ≢ f j) → Asc f (positions f n)
  unfolding positions
  positions_asc zero h = flat
  positions_asc (suc n) h =
      asc_insert n (all_map (λ q l. h q n l (omega arith)) (positions_below n)) (positions_asc n (λ i j p q. h i j p (omega arith)))

  -- where the keys before index p are below the new one's and the next is not
  pub insert_at : (q : ℕ) (xs : List ℕ) (p : ℕ) → p ≤ length xs → ((j : ℕ) → j < p → f (get_or xs j 0) < f q)
      → (p < length xs → f q ≤ f (get_or xs p 0)) → insert_position f q xs ≡ take p xs ++ q ∷ drop p xs
  unfolding insert_position
  insert_at q [] zero h a b = refl
  insert_at q [] (suc p) h a b = absurd (not-suc-le-zero h)
  insert_at q (x ∷ xs) zero h a b = let l : f q ≤ f x = b (omega arith) in rw (le-ltb (f x) (f q) l)
  insert_at q (x ∷ xs) (suc p) h a b =
      rw (lt-ltb (f x) (f q) (a 0 (omega arith)))
      (ap (λ (r : List ℕ). x ∷ r) (insert_at q xs p (le_of_suc-le-suc h) (λ j l. a (suc j) (suc-le-suc l)) (λ l. b (suc-le-suc l))))

  -- they depend on the keys in use only
  module _ (g : ℕ → ℕ) where
    insert_same : (p : ℕ) {xs : List ℕ} → f p ≡ g p → All (λ q. f q ≡ g q) xs → insert_position f p xs ≡ insert_position g p xs
    unfolding insert_position
    insert_same p e none = refl
    insert_same p e (more h r) = rw (h, e, insert_same p e r)

    pub positions_same : (n : ℕ) → ((i : ℕ) → i < n → f i ≡ g i) → positions f n ≡ positions g n
    unfolding positions
    positions_same zero h = refl
    positions_same (suc n) h =
        insert_same n (h n (omega arith)) (all_map (λ q l. h q (omega arith)) (positions_below n))
        ∙ ap (insert_position g n) (positions_same n (λ i l. h i (omega arith)))

-- no key stands twice where such a list exists
pub distinct : (f : ℕ → ℕ) (n : ℕ) (xs : List ℕ) → length xs ≡ n → All (λ q. q < n) xs → Asc f xs
    → (i j : ℕ) → i < j → j < n → f i ≢ f j
distinct f n xs e b a i j h l =
    let u = unique f n xs e b a in
    asc_apart f a (rw u (positions_has f n i (lt_trans h l))) (rw u (positions_has f n j l)) (λ k. omega arith)

-- one key more, at the end of the keys: its position goes in at the index of its key
pub grow : (f g : ℕ → ℕ) (m k p : ℕ) → ((i : ℕ) → i < m → g i ≡ f i) → g m ≡ k → p ≤ m
    → ((j : ℕ) → j < p → f (get_or (positions f m) j 0) < k) → (p < m → k ≤ f (get_or (positions f m) p 0))
    → positions g (suc m) ≡ take p (positions f m) ++ m ∷ drop p (positions f m)
unfolding positions
grow f g m k p old new hp before after =
    let li : length (positions f m) ≡ m = length_positions f m in
    let low : (j : ℕ) → j < m → g (get_or (positions f m) j 0) ≡ f (get_or (positions f m) j 0) =
    λ j h. old (get_or (positions f m) j 0) (all_elem (positions_below f m) j (rw li h)) in
    ap (insert_position g m) (positions_same g f m old)
    ∙ insert_at g m (positions f m) p (rw li hp)
    (λ j h. rw (low j (omega arith), new) (before j h))
    (λ h. let q : p < m = rw li at h in rw (low p q, new) (after q))

-- ---- some positions go, and the others are numbered anew

module _ (st : ℕ → Bool) (rk : ℕ → ℕ) where
  unfoldable pub pick : List ℕ → List ℕ
  pick [] = []
  pick (q ∷ qs) = cond (st q) (rk q ∷ pick qs) (pick qs)

  pick_gone : (f : ℕ → ℕ) (p : ℕ) (xs : List ℕ) → st p ≡ false → pick (insert_position f p xs) ≡ pick xs
  unfolding pick insert_position
  pick_gone f p [] e = rw e
  pick_gone f p (x ∷ xs) e =
      by_lt (f x) (f p) (λ _ h. rw (lt-ltb (f x) (f p) h, pick_gone f p xs e))
      (λ _ h. rw (le-ltb (f x) (f p) (omega arith), e))

  module _ (f g : ℕ → ℕ) where
    all_pick : (k : ℕ) {xs : List ℕ} → All (λ q. st q ≡ true → g (rk q) ≡ f q) xs → All (λ q. k ≤ f q) xs → All (λ q. k ≤ g q) (pick xs)
    unfolding pick
    all_pick k none none = none
    all_pick k (more {x} h r) (more l s) =
        by (st x) (λ e. let l2 : k ≤ g (rk x) = rw (h e) l in rw e (more l2 (all_pick k r s))) (λ e. rw e (all_pick k r s))

    before_all : (p : ℕ) {xs : List ℕ} → All (λ q. g p ≤ g q) xs → insert_position g p xs ≡ p ∷ xs
    unfolding insert_position
    before_all p none = refl
    before_all p (more {x} h r) = rw (le-ltb (g x) (g p) h)

    pick_kept : (p : ℕ) {xs : List ℕ} → Asc f xs → All (λ q. st q ≡ true → g (rk q) ≡ f q) xs → st p ≡ true → g (rk p) ≡ f p
        → pick (insert_position f p xs) ≡ insert_position g (rk p) (pick xs)
    unfolding pick insert_position
    pick_kept p flat none e k = rw e
    pick_kept p (rise {x} {xs} a r) (more h s) e k =
        by_lt (f x) (f p)
        (λ _ l. rw (lt-ltb (f x) (f p) l)
        (by (st x)
        (λ t. let q : g (rk x) < g (rk p) = rw (h t, k) l in rw (t, lt-ltb (g (rk x)) (g (rk p)) q, pick_kept p r s e k))
        (λ t. rw (t, pick_kept p r s e k))))
        (λ _ l. let m : f p ≤ f x = omega arith in
        let al : All (λ q. f p ≤ f q) (x ∷ xs) = more m (all_map (λ q u. le_of_lt (lt_of_le_of_lt m u)) a) in
        let af : All (λ q. st q ≡ true → g (rk q) ≡ f q) (x ∷ xs) = more h s in
        let b : All (λ q. g (rk p) ≤ g q) (pick (x ∷ xs)) = rw k (all_pick (f p) af al) in
        rw (le-ltb (f x) (f p) m, e) (sym (before_all (rk p) b)))

    -- the positions of the keys that stay are those of all, without those that go, each numbered anew
    pub renumbered : (n : ℕ) → ((i j : ℕ) → i < j → j < n → f i ≢ f j) → rk 0 ≡ 0
        → ((i : ℕ) → i < n → st i ≡ true → rk (suc i) ≡ suc (rk i)) → ((i : ℕ) → i < n → st i ≡ false → rk (suc i) ≡ rk i)
        → ((i : ℕ) → i < n → st i ≡ true → g (rk i) ≡ f i) → pick (positions f n) ≡ positions g (rk n)
    unfolding pick positions
    renumbered zero d z y o k = rw z
    renumbered (suc n) d z y o k =
        let ih = renumbered n (λ i j p q. d i j p (omega arith)) z (λ i h. y i (omega arith)) (λ i h. o i (omega arith)) (λ i h. k i (omega arith)) in
        let kn : All (λ q. st q ≡ true → g (rk q) ≡ f q) (positions f n) = all_map (λ q l. k q (omega arith)) (positions_below f n) in
        by (st n)
        (λ e. rw (y n (omega arith) e) (pick_kept n (positions_asc f n (λ i j p q. d i j p (omega arith))) kn e (k n (omega arith) e)
        ∙ ap (insert_position g (rk n)) ih))
        (λ e. rw (o n (omega arith) e) (pick_gone f n (positions f n) e ∙ ih))

pub pick_more : (st : ℕ → Bool) (rk : ℕ → ℕ) (xs : List ℕ) (q : ℕ) → pick st rk (xs ++ q ∷ []) ≡ cond (st q) (pick st rk xs ++ rk q ∷ []) (pick st rk xs)
unfolding pick
pick_more st rk [] q = by (st q) (λ e. rw e) (λ e. rw e)
pick_more st rk (x ∷ xs) q =
    by (st x) (λ e. rw (e, pick_more st rk xs q) (by (st q) (λ u. rw u) (λ u. rw u))) (λ e. rw (e, pick_more st rk xs q))

pub pick_nil : (st : ℕ → Bool) (rk : ℕ → ℕ) → pick st rk [] ≡ []
unfolding pick
pick_nil st rk = refl
