-- Laws of ids, members, members from an id on, holders, buckets with nothing pending.
use mathlib.Core.Path.{◌≡◌, refl, sym, ap, subst, ◌∙◌}
use mathlib.Core.List.Memᴰ
use mathlib.Core.List.{List, [], ◌∷◌, ◌++◌, Memᴰ}
use mathlib.Core.List.{append-nil}
use mathlib.Core.Bool.{Bool, true, not, cond}
use mathlib.Core.Logic.{◌⊎◌, inl, inr}
use Prim.Native.Nat.{ℕ, zero, suc, ◌-◌, ◌/◌, ◌%◌, ◌^◌, ◌≤◌, ◌<◌}
use native.Mathlib.Nat.{mod-lt}
use native.Mathlib.Omega.{arith}
use lib.Bits.{bit_and, and_mask}
use lib.Dec.{ltb, leb}
use lib.ListN.{length, length-append}
use borrow.Author.Tests.{eqb-true, eq-eqb, le-leb, leb-true}
use Rattle.lists.specs.Tests.{◌and◌, only}
use Rattle.lists.proofs.Tests.{by, by_eq, by_lt, either, clash, is_no, and_l, and_r, both, every_in, only_in, in_only, an_element}
use Rattle.rules.specs.declared.settings.Settings.{Settings}
use Rattle.rules.specs.Limits.{buckets}
use Rattle.rules.specs.Numbers.{bucket_of, sequences, key_of, home_of, sequence_of}
use Rattle.rules.specs.Entries.{Entry, key_for, has}
use Rattle.rules.specs.Chunks.{held, saved_in}
use Rattle.rules.specs.State.{Bricks, Bucket, State}
use Rattle.rules.specs.Pairs.{ids_of}
use Rattle.rules.specs.Derived.{members, members_from, first_holder, saved_at, saved_twice, primary_memory, primary_disk, backup_memory, backup_disk}
use Rattle.rules.specs.Derived.{agree, pending, none_pending, nothing_pending}
use Rattle.rules.proofs.Limits.{some_buckets}
use Rattle.rules.proofs.Entries.{has_entry, no_entry}

-- ---- numbers
pub bucket_below : (c : Settings) (b : ℕ) → bucket_of (buckets c) b < buckets c
unfolding bucket_of
bucket_below c b = mod-lt (b / 1024) (some_buckets c)

-- a bucket by its block's bits: of those from 10 up as many as the mask has, whatever power of 2 the number of buckets is
pub bucket_bits : (count block : ℕ) → (k : ℕ) × (count ≡ 2 ^ k) → bit_and (block / 2 ^ 10) (count - 1) ≡ bucket_of count block
unfolding bucket_of
bucket_bits count block (k, e) = subst (λ n. bit_and (block / 2 ^ 10) (n - 1) ≡ block / 2 ^ 10 % n) (sym e) (and_mask (block / 2 ^ 10) k)

pub home_key : (x n : ℕ) → n < sequences → home_of (key_of x n) ≡ x
home_key x n h = omega arith

pub sequence_key : (x n : ℕ) → n < sequences → sequence_of (key_of x n) ≡ n
sequence_key x n h = omega arith

pub key_apart : (i j q r : ℕ) → q < sequences → r < sequences → key_of i q ≡ key_of j r → (i ≡ j) × (q ≡ r)
key_apart i j q r hq hr e = omega arith

-- ---- the ids that a test picks
pub in_ids : (n : ℕ) (f : ℕ → Bool) (i : ℕ) → 0 < i → i ≤ n → f i ≡ true → Memᴰ i (ids_of n f)
unfolding ids_of
in_ids zero f i l m y = absurd (omega arith)
in_ids (suc n) f i l m y =
    by_eq i (suc n) (λ _ e. Memᴰ.append_right (ids_of n f) (rw (← e) (rw y (Memᴰ.head refl)))) (λ _ e. Memᴰ.append_left _ (in_ids n f i l (omega arith) y))

pub ids_in : (n : ℕ) (f : ℕ → Bool) (i : ℕ) → Memᴰ i (ids_of n f) → (0 < i) × (i ≤ n) × (f i ≡ true)
unfolding ids_of
ids_in zero f i m = absurd (Memᴰ.not-nil m)
ids_in (suc n) f i m =
    elim (Memᴰ.append_cases (ids_of n f) m) [
      | inl o ↦ let z = ids_in n f i o in (z.0, omega (arith, z.1), z.2)
      | inr o ↦ by (f (suc n)) (λ q. let e = Memᴰ.eq_of_singleton (rw q at o) in (omega (arith, e), omega (arith, e), rw e q))
          (λ q. absurd (Memᴰ.not-nil (rw q at o)))
    ]

only_append : (test : ℕ → Bool) (l m : List ℕ) → only test (l ++ m) ≡ only test l ++ only test m
unfolding only
only_append test [] m = refl
only_append test (x ∷ l) m = by (test x) (λ q. rw (q, only_append test l m)) (λ q. rw (q, only_append test l m))

-- one more id: it is not picked, or it comes last
last_id : (n : ℕ) (f test : ℕ → Bool)
    → (only test (ids_of (suc n) f) ≡ only test (ids_of n f)) ⊎ (only test (ids_of (suc n) f) ≡ only test (ids_of n f) ++ (suc n ∷ []))
unfolding ids_of only
last_id n f test =
    let e = only_append test (ids_of n f) (cond (f (suc n)) (suc n ∷ []) []) in
    by (f (suc n))
    (λ q. by (test (suc n)) (λ t. inr (e ∙ rw (q, t) refl)) (λ t. inl (e ∙ rw (q, t) (append-nil (only test (ids_of n f))))))
    (λ q. inl (e ∙ rw q (append-nil (only test (ids_of n f)))))

-- of two picked ids, one is not x
two_ids : (n : ℕ) (f test : ℕ → Bool) (x : ℕ) → 1 < length (only test (ids_of n f)) → (i : ℕ) × Memᴰ i (only test (ids_of n f)) × (i ≡ x → ⊥)
two_ids zero f test x l = absurd (empty l)
  where
    empty : 1 < length (only test (ids_of 0 f)) → ⊥
    empty l = unfold ids_of only in omega (arith, l)
two_ids (suc n) f test x l =
    elim (last_id n f test) [
      | inl e ↦ let z = two_ids n f test x (omega (arith, ap length e)) in (z.0, subst (λ (m : List ℕ). Memᴰ z.0 m) (sym e) z.1, z.2)
      | inr e ↦
          let z = an_element (only test (ids_of n f)) (omega (arith, length-append (only test (ids_of n f)) (suc n ∷ []), ap length e)) in
          by_eq (suc n) x
          (λ _ u. (
            z.0,
            subst (λ (m : List ℕ). Memᴰ z.0 m) (sym e) (Memᴰ.append_left _ z.1),
            λ v. omega
                (arith, (ids_in n f z.0 (only_in test _ z.1).0).1),
          ))
          (λ _ u. (suc n, subst (λ (m : List ℕ). Memᴰ (suc n) m) (sym e) (Memᴰ.append_right (only test (ids_of n f)) (Memᴰ.head refl)), u))
    ]

-- ---- the members from an id on are the members
pub in_members_from : (s : State) (h i : ℕ) → Memᴰ i (members s) → Memᴰ i (members_from s h)
unfolding members_from
in_members_from s h i m =
    by_lt i h (λ q _. Memᴰ.append_right (only (leb h) (members s)) (in_only (λ j. ltb j h) (members s) m q))
    (λ _ u. Memᴰ.append_left _ (in_only (leb h) (members s) m (le-leb h i u)))

pub members_from_in : (s : State) (h i : ℕ) → Memᴰ i (members_from s h) → Memᴰ i (members s)
unfolding members_from
members_from_in s h i m =
    elim (Memᴰ.append_cases (only (leb h) (members s)) m) [ inl o ↦ (only_in (leb h) (members s) o).0 | inr o ↦ (only_in (λ j. ltb j h) (members s) o).0 ]

-- ---- what is sought and found is held, by an up brick; and a held one is found
pub first_holder_held : (b : Bricks) (k : ℕ) (l : List ℕ) → 0 < first_holder b k l → held (b.log (first_holder b k l)) k ≡ true
unfolding first_holder
first_holder_held b k [] h = absurd (omega arith)
first_holder_held b k (i ∷ l) h = by (b.up i and held (b.log i) k) (λ q. rw q (and_r _ _ q)) (λ q. rw q (first_holder_held b k l (rw q at h)))

pub first_holder_found : (b : Bricks) (k i : ℕ) (l : List ℕ) → ((j : ℕ) → Memᴰ j l → 0 < j) → Memᴰ i l → b.up i ≡ true → held (b.log i) k ≡ true
    → 0 < first_holder b k l
unfolding first_holder
first_holder_found b k i [] p m u y = absurd (Memᴰ.not-nil m)
first_holder_found b k i (x ∷ l) p m u y =
    either (λ z. 0 < z) (b.up x and held (b.log x) k) (λ _. p x (Memᴰ.head refl))
    (λ q. elim (Memᴰ.cases_cons m) [ inl e ↦ clash (rw (← e) at q) (both _ _ u y) | inr t ↦ first_holder_found b k i l (λ j n. p j (Memᴰ.tail n)) t u y ])

-- ---- the members that have a chunk saved
pub saved_at_in : (s : State) (k i : ℕ) → Memᴰ i (saved_at s k) → Memᴰ i (members s) × (saved_in (s.bricks.log i) k ≡ true)
unfolding saved_at
saved_at_in s k i m = only_in (λ j. saved_in (s.bricks.log j) k) (members s) m

pub in_saved_at : (s : State) (k i : ℕ) → Memᴰ i (members s) → saved_in (s.bricks.log i) k ≡ true → Memᴰ i (saved_at s k)
unfolding saved_at
in_saved_at s k i m y = in_only (λ j. saved_in (s.bricks.log j) k) (members s) m y

-- saved at two members, it is saved at one that is not x
pub saved_elsewhere : (s : State) (k x : ℕ) → saved_twice s k ≡ true
    → (i : ℕ) × Memᴰ i (members s) × (saved_in (s.bricks.log i) k ≡ true) × (i ≡ x → ⊥)
unfolding saved_twice saved_at
saved_elsewhere s k x y =
    let t = two_ids s.given s.bricks.member (λ i. saved_in (s.bricks.log i) k) x (leb-true _ _ y) in
    let u = saved_at_in s k t.0 t.1 in
    (t.0, u.0, u.1, t.2)

-- ---- agreeing and pending
pub agree_all : (k : Bucket) (b : ℕ) → agree k b ≡ true
    → (key_for (primary_disk k) b ≡ key_for (primary_memory k) b) × (key_for (backup_memory k) b ≡ key_for (primary_memory k) b)
    × (key_for (backup_disk k) b ≡ key_for (primary_memory k) b)
unfolding agree
agree_all k b y = (eqb-true _ _ (and_l _ _ (and_l _ _ y)), eqb-true _ _ (and_r _ _ (and_l _ _ y)), eqb-true _ _ (and_r _ _ y))

pub agrees : (k : Bucket) (b : ℕ) → k.ready ≡ true → not (pending k b) ≡ true → agree k b ≡ true
unfolding pending
agrees k b r y = by (agree k b) (λ z. z) (λ z. absurd (is_no _ y (both _ _ r (ap not z))))

-- a ready with nothing pending bucket is ready, and all blocks agree
pub nothing_pending_agrees : (k : Bucket) → nothing_pending k ≡ true → (k.ready ≡ true) × ((b : ℕ) → agree k b ≡ true)
unfolding nothing_pending
nothing_pending_agrees k y =
    let ready = and_l _ _ (and_l _ _ (and_l _ _ (and_l _ _ y))) in (
      ready,
      λ b.
          by (has (primary_memory k) b) (λ z. named (primary_memory k) b ready (and_r _ _ (and_l _ _ (and_l _ _ (and_l _ _ y)))) z) (λ n₁.
          by (has (primary_disk k) b) (λ z. named (primary_disk k) b ready (and_r _ _ (and_l _ _ (and_l _ _ y))) z) (λ n₂.
          by (has (backup_memory k) b) (λ z. named (backup_memory k) b ready (and_r _ _ (and_l _ _ y)) z) (λ n₃.
          by (has (backup_disk k) b) (λ z. named (backup_disk k) b ready (and_r _ _ y) z) (λ n₄.
          none b (no_entry _ b n₁) (no_entry _ b n₂) (no_entry _ b n₃) (no_entry _ b n₄))))),
    )
  where
    named : (l : List Entry) (b : ℕ) → k.ready ≡ true → none_pending k l ≡ true → has l b ≡ true → agree k b ≡ true
    named l b r y z =
        let t = has_entry l b z in
        agrees k b r (rw t.2 at (every_in (λ e. not (pending k e.block)) l (unfold none_pending in y) t.0 t.1))

    none : (b : ℕ) → key_for (primary_memory k) b ≡ 0 → key_for (primary_disk k) b ≡ 0 → key_for (backup_memory k) b ≡ 0 → key_for (backup_disk k) b ≡ 0 → agree k b ≡ true
    none b e₁ e₂ e₃ e₄ = unfold agree in both _ _ (both _ _ (eq-eqb _ _ (e₂ ∙ sym e₁)) (eq-eqb _ _ (e₃ ∙ sym e₁))) (eq-eqb _ _ (e₄ ∙ sym e₁))
