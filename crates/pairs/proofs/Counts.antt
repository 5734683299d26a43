-- Counting assignments.
use mathlib.Core.Path.{◌≡◌, refl, sym, ◌∙◌}
use mathlib.Core.List.{List, [], ◌∷◌}
use mathlib.Core.Bool.{true, false, cond}
use Prim.Native.Nat.{ℕ, zero, suc, ◌+◌, ◌*◌, ◌/◌, ◌≤◌, ◌<◌}
use native.Mathlib.Nat.{suc-mul, zero-mul, div-add-mod', mod-lt, mul_comm}
use native.Mathlib.Omega.{arith}
use lib.Dec.{eqb}
use lib.ListN.{length, set, length-append}
use borrow.Author.Tests.{eq-eqb, ne_eqb}
use Rattle.lists.proofs.Tests.{by, by_eq, impossible}
use Rattle.rules.specs.Pairs.{Assignments, id_in, among, load, share, assignments_of}
use Rattle.pairs.specs.Claims.{Distinct, Buckets}
use Rattle.pairs.proofs.Least.{among_cases, among_head, among_tail, among_not}

abbrev pub one : ℕ → ℕ → ℕ
one x i = cond (eqb x i) 1 0

-- ---- one position changed
pub load_set : (s : Assignments) (k x i : ℕ) → k < length s → load (set s k x) i + one (id_in s k) i ≡ load s i + one x i
unfolding load
load_set [] k x i h = absurd (omega arith)
load_set (y ∷ s) zero x i h = omega arith
load_set (y ∷ s) (suc k) x i h = omega (arith, load_set s k x i (omega arith))

pub one_same : (x i : ℕ) → x ≡ i → one x i ≡ 1
one_same x i e = cc (eq-eqb x i e)

pub one_other : (x i : ℕ) → (x ≡ i → ⊥) → one x i ≡ 0
one_other x i n = cc (ne_eqb x i n)

pub one_le : (x i : ℕ) → one x i ≤ 1
one_le x i = by (eqb x i) (λ q. rw q (omega arith)) (λ q. rw q (omega arith))

-- ---- a brick with an assignment is in some position
pub holds : (s : Assignments) (i : ℕ) → 0 < load s i → (k : ℕ) × (k < length s) × (id_in s k ≡ i)
unfolding load
holds [] i h = absurd (omega arith)
holds (x ∷ s) i h =
    by_eq x i (λ q e. (0, omega arith, e)) (λ q n. let h' = rw q at h in let r = holds s i (omega arith) in (suc r.0, omega (arith, r.1), r.2))

-- ---- the loads of distinct members add up to no more than the positions
total : List ℕ → Assignments → ℕ
total [] s = 0
total (m ∷ ms) s = load s m + total ms s

ones : List ℕ → ℕ → ℕ
ones [] v = 0
ones (m ∷ ms) v = one v m + ones ms v

ones_none : (ms : List ℕ) (v : ℕ) → among ms v ≡ false → ones ms v ≡ 0
unfolding ones
ones_none [] v h = refl
ones_none (m ∷ ms) v h = let n = among_not m v ms h in rw (ne_eqb v m (λ e. n.0 (sym e)), ones_none ms v n.1)

ones_le : (ms : List ℕ) (v : ℕ) → Distinct ms → ones ms v ≤ 1
unfolding ones
ones_le [] v d = omega arith
ones_le (m ∷ ms) v d = by_eq v m (λ q e. rw (q, e, ones_none ms m d.0) (omega arith)) (λ q n. rw q (omega (arith, ones_le ms v d.1)))

total_nil : (ms : List ℕ) → total ms [] ≡ 0
unfolding total load
total_nil [] = refl
total_nil (m ∷ ms) = rw (total_nil ms)

total_cons : (ms : List ℕ) (v : ℕ) (s : Assignments) → total ms (v ∷ s) ≡ ones ms v + total ms s
unfolding total ones load
total_cons [] v s = refl
total_cons (m ∷ ms) v s = omega (arith, total_cons ms v s)

total_le : (ms : List ℕ) → Distinct ms → (s : Assignments) → total ms s ≤ length s
total_le ms d [] = omega (arith, total_nil ms)
total_le ms d (v ∷ s) = omega (arith, total_cons ms v s, ones_le ms v d, total_le ms d s)

total_ge : (ms : List ℕ) (s : Assignments) (c : ℕ) → ((z : ℕ) → among ms z ≡ true → c ≤ load s z) → length ms * c ≤ total ms s
unfolding total
total_ge [] s c h = rw zero-mul (omega arith)
total_ge (m ∷ ms) s c h = rw suc-mul (omega (arith, total_ge ms s c (λ z p. h z (among_tail m z ms p)), h m (among_head m ms)))

total_gt : (ms : List ℕ) (s : Assignments) (c x : ℕ) → ((z : ℕ) → among ms z ≡ true → c ≤ load s z) → among ms x ≡ true → c < load s x → length ms * c < total ms s
unfolding total among
total_gt [] s c x h p l = impossible p
total_gt (m ∷ ms) s c x h p l =
    rw suc-mul (among_cases m x ms p
    (λ e. let l' : c < load s m = rw e l in omega (arith, total_ge ms s c (λ z q. h z (among_tail m z ms q))))
    (λ n q. omega (arith, total_gt ms s c x (λ z r. h z (among_tail m z ms r)) q l, h m (among_head m ms))))

-- so not every member has c or more, and one more than c, where the members' shares cover the positions
pub not_all_full : (ms : List ℕ) → Distinct ms → (s : Assignments) (c x : ℕ) → length s ≤ length ms * c → ((z : ℕ) → among ms z ≡ true → c ≤ load s z)
    → among ms x ≡ true → c < load s x → ⊥
not_all_full ms d s c x hs h p l = omega (arith, total_gt ms s c x h p l, total_le ms d s)

-- distinct members that are all among others are no more than they
pub among_load : (ms : List ℕ) (z : ℕ) → among ms z ≡ true → 1 ≤ load ms z
unfolding load among
among_load [] z h = impossible h
among_load (m ∷ ms) z h = among_cases m z ms h (λ e. rw (eq-eqb m z e) (omega arith)) (λ n t. omega (arith, among_load ms z t))

pub no_longer : (ms ns : List ℕ) → Distinct ms → ((z : ℕ) → among ms z ≡ true → among ns z ≡ true) → length ms ≤ length ns
no_longer ms ns d h = omega (arith, total_ge ms ns 1 (λ z p. among_load ns z (h z p)), total_le ms d ns)

pub share_covers : (n m : ℕ) → 0 < m → 2 * n ≤ m * share n m
unfolding share
share_covers n zero h = absurd (omega arith)
share_covers n (suc m) h =
    rw (mul_comm (suc m) ((2 * n + m) / suc m)) (omega (arith, div-add-mod' (2 * n + m) (suc m), mod-lt (2 * n + m) {m = suc m} (omega arith)))

-- ---- where x always has y beside it, x has no more than y
pub beside : (n : ℕ) (s : Assignments) (x y : ℕ) → length s ≡ 2 * n → (x ≡ y → ⊥) → Buckets n (λ _ a b. (a ≡ x → b ≡ y) × (b ≡ x → a ≡ y)) s → load s x ≤ load s y
unfolding load
beside zero [] x y hl d h = omega arith
beside zero (a ∷ s) x y hl d h = absurd (omega arith)
beside (suc n) [] x y hl d h = absurd (omega arith)
beside (suc n) (a ∷ []) x y hl d h = absurd (omega arith)
beside (suc n) (a ∷ b ∷ s) x y hl d h =
    let r : load s x ≤ load s y = beside n s x y (omega arith) d (λ g p.
    let e : 2 * suc g ≡ suc (suc (2 * g)) = omega arith in
    let f : suc (suc (2 * g)) + 1 ≡ suc (suc (2 * g + 1)) = omega arith in
    rw (e, f) at (h (suc g) (omega arith))) in
    let q = h 0 (omega arith) in
    by_eq a x (λ t e. let u = q.0 e in
    let v : b ≡ x → ⊥ = λ w. d (sym w ∙ u) in
    rw (t, ne_eqb b x v, eq-eqb b y u) (omega (arith, one_le a y)))
    (λ t e. by_eq b x (λ v w. let u = q.1 w in rw (t, v, eq-eqb a y u) (omega (arith, one_le b y))) (λ v w. rw (t, v) (omega (arith, one_le a y, one_le b y))))

-- ---- assignments from columns
pub assigned_length : (n : ℕ) (p b : ℕ → ℕ) → length (assignments_of n p b) ≡ 2 * n
unfolding assignments_of
assigned_length zero p b = refl
assigned_length (suc n) p b = length-append (assignments_of n p b) (p n ∷ b n ∷ []) ∙ omega (arith, assigned_length n p b)
