-- The members of a view as a list of ids, and the pair that each bucket gets of them.
use mathlib.Core.Path.{◌≡◌, sym, ◌∙◌}
use mathlib.Core.List.Memᴰ
use mathlib.Core.List.{List, [], ◌∷◌, ◌++◌, append-nil, Memᴰ}
use mathlib.Core.Bool.{Bool, true, false}
use mathlib.Core.Logic.{inl, inr}
use Prim.Native.Nat.{ℕ, zero, suc, ◌+◌, ◌*◌, ◌≤◌, ◌<◌}
use native.Mathlib.Omega.{arith}
use lib.ListN.{length}
use borrow.Author.Tests.{eqb-true}
use Rattle.lists.proofs.Tests.{by, eqb_self, impossible, clash, or_cases, or_l, or_r}
use Rattle.rules.specs.Pairs.{Assignments, id_in, among, ids_of, pairs}
use Rattle.rules.proofs.Derived.{ids_in}
use Rattle.pairs.specs.Claims.{Distinct, Members}
use Rattle.pairs.proofs.Facts.{pairs_apart}

pub among_in : (l : List ℕ) (i : ℕ) → among l i ≡ true → Memᴰ i l
unfolding among
among_in [] i y = impossible y
among_in (m ∷ l) i y = elim (or_cases _ _ y) [ inl e ↦ Memᴰ.head (sym (eqb-true m i e)) | inr t ↦ Memᴰ.tail (among_in l i t) ]

pub in_among : (l : List ℕ) (i : ℕ) → Memᴰ i l → among l i ≡ true
unfolding among
in_among [] i m = absurd (Memᴰ.not-nil m)
in_among (x ∷ l) i m = elim (Memᴰ.cases_cons m) [ inl e ↦ or_l _ _ (rw e (eqb_self x)) | inr t ↦ or_r _ _ (in_among l i t) ]

not_among : (l : List ℕ) (i : ℕ) → (Memᴰ i l → ⊥) → among l i ≡ false
not_among l i n = by (among l i) (λ y. absurd (n (among_in l i y))) (λ z. z)

-- one more, unlike all others, at the end
distinct_last : (l : List ℕ) (x : ℕ) → Distinct l → (Memᴰ x l → ⊥) → Distinct (l ++ (x ∷ []))
distinct_last [] x d n = (not_among [] x Memᴰ.not-nil, tt)
distinct_last (m ∷ l) x d n = (
  not_among (l ++ (x ∷ [])) m (λ i. elim (Memᴰ.append_cases l i) [
    | inl o ↦ clash d.0 (in_among l m o)
    | inr o ↦ n (Memᴰ.head (sym (Memᴰ.eq_of_singleton o)))
  ]),
  distinct_last l x d.1 (λ t. n (Memᴰ.tail t)),
)

ids_distinct : (n : ℕ) (f : ℕ → Bool) → Distinct (ids_of n f)
unfolding ids_of
ids_distinct zero f = tt
ids_distinct (suc n) f =
    by (f (suc n)) (λ q. rw q (distinct_last (ids_of n f) (suc n) (ids_distinct n f) (λ m. omega (arith, (ids_in n f (suc n) m).1))))
    (λ q. rw (q, append-nil (ids_of n f)) (ids_distinct n f))

-- two different ids make a list of at least two
two_long : (l : List ℕ) (i j : ℕ) → Memᴰ i l → Memᴰ j l → (i ≡ j → ⊥) → 2 ≤ length l
two_long [] i j m o n = absurd (Memᴰ.not-nil m)
two_long (x ∷ []) i j m o n = absurd (n (Memᴰ.eq_of_singleton m ∙ sym (Memᴰ.eq_of_singleton o)))
two_long (x ∷ y ∷ l) i j m o n = omega arith

module _ (most : ℕ) (f : ℕ → Bool) (i j : ℕ) (a : Memᴰ i (ids_of most f)) (b : Memᴰ j (ids_of most f)) (n : i ≡ j → ⊥) where
  pub two_members : Members (ids_of most f)
  two_members = record {
    two = two_long (ids_of most f) i j a b n;
    distinct = ids_distinct most f;
    no_zero = not_among (ids_of most f) 0 (λ m. omega (arith, (ids_in most f 0 m).0));
  }

-- what a bucket's pair is, of ids that a test picks
pub record PairOf (most : ℕ) (f : ℕ → Bool) (x y : ℕ) : Type 0 where
  pub one_first : 0 < x
  pub one_most : x ≤ most
  pub one_picked : f x ≡ true
  pub two_first : 0 < y
  pub two_most : y ≤ most
  pub two_picked : f y ≡ true
  pub apart : x ≡ y → ⊥

pub pair_at : (count most : ℕ) (f : ℕ → Bool) → Members (ids_of most f) → (last : Assignments) → length last ≡ 2 * count → (g : ℕ) → g < count
    → let assigned = pairs count (ids_of most f) last in PairOf most f (id_in assigned (2 * g)) (id_in assigned (2 * g + 1))
pair_at count most f o last hl g h =
    let p = pairs_apart count (ids_of most f) o last hl g h in
    let x = ids_in most f _ (among_in (ids_of most f) _ p.primary) in
    let y = ids_in most f _ (among_in (ids_of most f) _ p.backup) in
    record { one_first = x.0; one_most = x.1; one_picked = x.2; two_first = y.0; two_most = y.1; two_picked = y.2; apart = p.apart }
