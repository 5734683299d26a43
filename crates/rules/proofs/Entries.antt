-- Laws of entries: what look, has and membership say of a list with one block inserted, removed or drained into it.
use mathlib.Core.Path.{◌≡◌, refl, sym, ap}
use mathlib.Core.List.Memᴰ
use mathlib.Core.List.{List, [], ◌∷◌, Memᴰ}
use mathlib.Core.Bool.{Bool, true, false, cond}
use mathlib.Core.Logic.{◌⊎◌, inl, inr}
use Prim.Native.Nat.{ℕ, suc, ◌≤◌, ◌<◌}
use native.Mathlib.Omega.{arith}
use lib.Dec.{ltb, eqb}
use lib.ListN.{length}
use borrow.Author.Tests.{ne_eqb, ltb-true, leb-true, le-leb}
use Rattle.lists.specs.Tests.{◌or◌, any, only}
use Rattle.lists.specs.Columns.{upd}
use Rattle.lists.proofs.Tests.{by, by_eq, by_lt, either, eqb_self, impossible, clash, and_l, and_r, both, or_cases, or_l, or_r, or_second}
use Rattle.rules.specs.Entries.{Entry, entry, key_for, has, names, ascending, insert, takes, drain}

-- ---- look and has
pub has_entry : (l : List Entry) (b : ℕ) → has l b ≡ true → (e : Entry) × Memᴰ e l × (e.block ≡ b) × (key_for l b ≡ e.key)
unfolding has any key_for
has_entry [] b y = impossible y
has_entry (x ∷ l) b y =
    by_eq b x.block (λ q e. (x, Memᴰ.head refl, sym e, cc))
    (λ q e. let t = has_entry l b (or_second _ _ y q) in (t.0, Memᴰ.tail t.1, t.2, cc (t.3, q)))

pub no_entry : (l : List Entry) (b : ℕ) → has l b ≡ false → key_for l b ≡ 0
unfolding has any key_for
no_entry [] b n = refl
no_entry (x ∷ l) b n =
    by (eqb b x.block) (λ q. clash n (or_l _ _ q)) (λ q. rw q (no_entry l b (by (has l b) (λ z. clash n (or_r _ _ z)) (λ z. z))))

pub key_for_names : (l : List Entry) (b : ℕ) → (key_for l b ≡ 0 → ⊥) → names l (key_for l b) ≡ true
unfolding names any key_for
key_for_names [] b = λ n. absurd (n refl)
key_for_names (e ∷ l) b =
    either (λ k. (k ≡ 0 → ⊥) → (eqb k e.key or names l k) ≡ true) (eqb b e.block) (λ _ _. or_l _ _ (eqb_self e.key))
    (λ _ n. or_r _ _ (key_for_names l b n))

-- ---- insert
pub key_for_insert : (l : List Entry) (b k c : ℕ) → key_for (insert l b k) c ≡ upd (key_for l) b k c
unfolding key_for insert upd
key_for_insert [] b k c = refl
key_for_insert (e ∷ l) b k c =
    by_lt b e.block (λ q r. cc)
    (λ p _. by_eq b e.block (λ q r. by_eq c b (λ t u. cc) (λ t u. cc))
    (λ q r. by_eq c b (λ t u. cc (key_for_insert l b k c, ne_eqb c e.block (λ z. r (cc)))) (λ t u. cc (key_for_insert l b k c))))

pub insert_in : (l : List Entry) (b k : ℕ) (e : Entry) → Memᴰ e (insert l b k) → (Memᴰ e l) ⊎ (e ≡ entry b k)
unfolding insert
insert_in [] b k e = λ m. elim (Memᴰ.cases_cons m) [ inl z ↦ inr z | inr t ↦ absurd (Memᴰ.not-nil t) ]
insert_in (x ∷ l) b k e =
    let P : List Entry → Type 0 = λ r. Memᴰ e r → (Memᴰ e (x ∷ l)) ⊎ (e ≡ entry b k) in
    either P (ltb b x.block) (λ _ (m : Memᴰ e (entry b k ∷ x ∷ l)). elim (Memᴰ.cases_cons m) [ inl z ↦ inr z | inr t ↦ inl t ])
    (λ _. either P (eqb b x.block)
    (λ _ (m : Memᴰ e (entry b k ∷ l)). elim (Memᴰ.cases_cons m) [ inl z ↦ inr z | inr t ↦ inl (Memᴰ.tail t) ])
    (λ _ (m : Memᴰ e (x ∷ insert l b k)). elim (Memᴰ.cases_cons m) [
      | inl z ↦ inl (Memᴰ.head z)
      | inr t ↦ elim (insert_in l b k e t) [ inl u ↦ inl (Memᴰ.tail u) | inr u ↦ inr u ]
    ]))

pub ascending_insert : (floor : ℕ) (l : List Entry) (b k : ℕ) → floor ≤ b → ascending floor l ≡ true → ascending floor (insert l b k) ≡ true
unfolding insert ascending
ascending_insert floor [] b k h y = both _ _ (le-leb floor b h) refl
ascending_insert floor (x ∷ l) b k h y =
    by_lt b x.block (λ q r. rw q (both _ _ (le-leb floor b h) (both _ _ (le-leb (suc b) x.block r) (and_r _ _ y))))
    (λ q r. rw q (by_eq b x.block (λ t u. rw (t, u) (both _ _ (and_l _ _ y) (and_r _ _ y)))
    (λ t u. rw t (both _ _ (and_l _ _ y) (ascending_insert (suc x.block) l b k (omega arith) (and_r _ _ y))))))

-- in an ascending list a block below the floor is not
pub below_floor : (floor : ℕ) (l : List Entry) (b : ℕ) → b < floor → ascending floor l ≡ true → has l b ≡ false
unfolding has any ascending ◌or◌
below_floor floor [] b h y = refl
below_floor floor (x ∷ l) b h y =
    let z = leb-true floor x.block (and_l _ _ y) in
    let n = below_floor (suc x.block) l b (omega arith) (and_r _ _ y) in
    by_eq b x.block (λ q e. absurd (omega arith)) (λ q e. rw (q, n) refl)

one_more : (l : List Entry) (b k : ℕ) → length (insert l b k) ≤ suc (length l)
unfolding insert
one_more [] b k = omega arith
one_more (x ∷ l) b k =
    by (ltb b x.block) (λ q. rw q (omega arith))
    (λ q. rw q (by (eqb b x.block) (λ t. rw t (omega arith)) (λ t. rw t (omega (arith, one_more l b k)))))

as_many : (floor : ℕ) (l : List Entry) (b k : ℕ) → ascending floor l ≡ true → has l b ≡ true → length (insert l b k) ≡ length l
unfolding insert ascending has any
as_many floor [] b k s z = impossible z
as_many floor (x ∷ l) b k s z =
    by_lt b x.block
    (λ q r. clash (below_floor (suc x.block) l b (omega arith) (and_r _ _ s)) (or_second _ _ z (ne_eqb b x.block (λ e. omega arith))))
    (λ q r. rw q (by_eq b x.block (λ t _. rw t refl) (λ t u. rw t (ap suc (as_many (suc x.block) l b k (and_r _ _ s) (or_second _ _ z t))))))

pub length_insert : (floor : ℕ) (l : List Entry) (b k most : ℕ) → ascending floor l ≡ true → length l ≤ most → takes most l b ≡ true
    → length (insert l b k) ≤ most
unfolding takes
length_insert floor l b k most s u y =
    elim (or_cases _ _ y) [ inl z ↦ omega (arith, as_many floor l b k s z) | inr z ↦ omega (arith, one_more l b k, ltb-true (length l) most z) ]

-- ---- remove
pub ascending_only : (floor : ℕ) (test : Entry → Bool) (l : List Entry) → ascending floor l ≡ true → ascending floor (only test l) ≡ true
unfolding ascending only
ascending_only floor test [] y = refl
ascending_only floor test (x ∷ l) y =
    let rest = ascending_only (suc x.block) test l (and_r _ _ y) in
    either (λ (r : List Entry). ascending floor r ≡ true) (test x) (λ _. both _ _ (and_l _ _ y) rest)
    (λ _. lower (suc x.block) floor (only test l) (omega (arith, leb-true floor x.block (and_l _ _ y))) rest)
  where
    lower : (high low : ℕ) (l : List Entry) → low ≤ high → ascending high l ≡ true → ascending low l ≡ true
    lower high low [] h y = refl
    lower high low (x ∷ l) h y = both _ _ (le-leb low x.block (omega (arith, leb-true high x.block (and_l _ _ y)))) (and_r _ _ y)

-- ---- drain: what stands in the copy afterwards was in it or in the buffer
pub drain_from : (most : ℕ) (l c : List Entry) (b : ℕ)
    → (key_for (drain most c l) b ≡ key_for c b) ⊎ ((e : Entry) × Memᴰ e l × (e.block ≡ b) × (key_for (drain most c l) b ≡ e.key))
unfolding drain upd
drain_from most [] c b = inl refl
drain_from most (e ∷ l) c b =
    elim (drain_from most l (cond (takes most c e.block) (insert c e.block e.key) c) b) [
      | inl q ↦ by (takes most c e.block)
          (λ z. by_eq b e.block (λ t u. inr (e, Memᴰ.head refl, sym u, cc (key_for_insert c e.block e.key b)))
          (λ t u. inl (cc (key_for_insert c e.block e.key b))))
          (λ z. inl (cc))
      | inr t ↦ inr (t.0, Memᴰ.tail t.1, t.2, t.3)
    ]
