-- Bricks in the order of their ids, whatever is asked of them: the first of those with ids from one number to below another, and how a scan of the places
-- finds it.
use mathlib.Core.Path.{◌≡◌, refl, sym, ap, ◌∙◌}
use mathlib.Core.List.{List, [], ◌∷◌}
use mathlib.Core.Bool.{Bool, true, false, cond}
use Prim.Native.Nat.{ℕ, zero, suc, ◌+◌, ◌≤◌, ◌<◌}
use native.Mathlib.Omega.{arith}
use borrow.Author.Tests.{leb-true, ltb-true, le-leb, lt-ltb}
use Rattle.lists.specs.Tests.{◌and◌, only, within}
use Rattle.lists.proofs.Tests.{by, by_eq, by_lt, clash, and_l, and_r, both}
use Rattle.lists.proofs.Lists.{only_append}
use Rattle.rules.specs.Pairs.{ids_of}

-- of one element or none
only_none : {A : Type 0} (p : A → Bool) (b : Bool) (x : A) → (b ≡ true → p x ≡ false) → only p (cond b (x ∷ []) []) ≡ []
unfolding only
only_none p true x h = rw (h refl)
only_none p false x h = refl

only_last : {A : Type 0} (p : A → Bool) (b : Bool) (x : A) → b ≡ true → p x ≡ true → only p (cond b (x ∷ []) []) ≡ x ∷ []
unfolding only
only_last p b x e h = rw (e, h)

only_alike : {A : Type 0} (p q : A → Bool) (b : Bool) (x : A) → p x ≡ q x → only p (cond b (x ∷ []) []) ≡ only q (cond b (x ∷ []) [])
unfolding only
only_alike p q true x e = rw e
only_alike p q false x e = refl

-- ---- ids from one number to below another
within_yes : (from to i : ℕ) → from ≤ i → i < to → within from to i ≡ true
within_yes from to i l m = both _ _ (le-leb from i l) (lt-ltb i to m)

within_no : (from to i : ℕ) → (from ≤ i → i < to → ⊥) → within from to i ≡ false
within_no from to i h = by (within from to i) (λ y. absurd (h (leb-true from i (and_l _ _ y)) (ltb-true i to (and_r _ _ y)))) (λ n. n)

pub none_between : (n : ℕ) (f : ℕ → Bool) (from to : ℕ) → ((i : ℕ) → i ≤ n → f i ≡ true → from ≤ i → i < to → ⊥) → only (within from to) (ids_of n f) ≡ []
unfolding ids_of only
none_between zero f from to h = refl
none_between (suc n) f from to h =
    only_append (within from to) (ids_of n f) (cond (f (suc n)) (suc n ∷ []) [])
    ∙ rw (
      none_between n f from to (λ i l. h i (omega arith)),
      only_none (within from to) (f (suc n)) (suc n) (λ y. within_no from to (suc n) (h (suc n) (omega arith) y)),
    )

-- the first, and those after it
pub first_between : (n : ℕ) (f : ℕ → Bool) (from to m : ℕ) → 0 < m → m ≤ n → f m ≡ true → from ≤ m → m < to
    → ((i : ℕ) → f i ≡ true → from ≤ i → i < to → m ≤ i) → only (within from to) (ids_of n f) ≡ m ∷ only (within (suc m) to) (ids_of n f)
unfolding ids_of
first_between zero f from to m z l y a b least = absurd (omega arith)
first_between (suc n) f from to m z l y a b least =
    by_eq m (suc n)
    (λ _ e. only_append (within from to) (ids_of n f) (cond (f (suc n)) (suc n ∷ []) [])
    ∙ rw (none_between n f from to (λ i o t u v. omega (arith, least i t u v)))
    (only_last (within from to) (f (suc n)) (suc n) (rw e at y) (within_yes from to (suc n) (omega arith) (omega arith))
    ∙ ap (λ (k : ℕ). k ∷ []) (sym e))
    ∙ ap (λ (r : List ℕ). m ∷ r) (sym (none_between (suc n) f (suc m) to (λ i o t u v. omega arith))))
    (λ _ e. only_append (within from to) (ids_of n f) (cond (f (suc n)) (suc n ∷ []) [])
    ∙ rw (
      first_between n f from to m z (omega arith) y a b least,
      only_alike (within from to) (within (suc m) to) (f (suc n)) (suc n)
          (rw (le-leb from (suc n) (omega arith), le-leb (suc m) (suc n) (omega arith)) refl),
    )
    (ap (λ (r : List ℕ). m ∷ r) (sym (only_append (within (suc m) to) (ids_of n f) (cond (f (suc n)) (suc n ∷ []) [])))))

-- ---- the places passed one by one
-- of the places below p, the least id from one number to below another of which the test holds; the upper number where there is none
pub record Lowest (ids : ℕ → ℕ) (test : ℕ → Bool) (from to p least : ℕ) : Type 0 where
  pub found : least < to → (test least ≡ true) × (from ≤ least)
  pub most : least ≤ to
  pub first : (q : ℕ) → q < p → test (ids q) ≡ true → from ≤ ids q → ids q < to → least ≤ ids q

module _ (ids : ℕ → ℕ) (test : ℕ → Bool) (from to : ℕ) where
  pub lowest_start : Lowest ids test from to 0 to
  lowest_start = record { found = λ l. absurd (omega arith); most = omega arith; first = λ q l m a b. absurd (omega arith) }

  module _ (p least : ℕ) (v : Lowest ids test from to p least) where
    pub lowest_hit : (within from least (ids p) and test (ids p)) ≡ true → Lowest ids test from to (p + 1) (ids p)
    lowest_hit y =
        let low : from ≤ ids p = leb-true _ _ (and_l _ _ (and_l _ _ y)) in
        let high : ids p < least = ltb-true _ _ (and_r _ _ (and_l _ _ y)) in
        record {
          found = λ _. (and_r _ _ y, low);
          most = omega (arith, v.most);
          first = λ q m u a b. by_eq q p (λ _ e. omega (arith, ap ids e)) (λ _ e. omega (arith, v.first q (omega arith) u a b));
        }

    pub lowest_miss : (within from least (ids p) and test (ids p)) ≡ false → Lowest ids test from to (p + 1) least
    lowest_miss n = record {
      found = v.found;
      most = v.most;
      first = λ q m u a b.
          by_eq q p (λ _ e. by_lt (ids q) least (λ t _. clash (rw e n) (both _ _ (both _ _ (le-leb _ _ a) t) u)) (λ _ o. o))
          (λ _ e. v.first q (omega arith) u a b);
    }

  -- all places passed, where a brick of which the test holds stands at one of them
  module _ (n places least : ℕ) (standing : (i : ℕ) → test i ≡ true → (q : ℕ) × (q < places) × (ids q ≡ i)) (v : Lowest ids test from to places least) where
    least_of : (i : ℕ) → test i ≡ true → from ≤ i → i < to → least ≤ i
    least_of i y a b =
        let t = standing i y in
        let e = t.2 in
        omega (arith, v.first t.0 t.1 (rw t.2 y) (omega arith) (omega arith))

    pub lowest_none : to ≤ least → only (within from to) (ids_of n test) ≡ []
    lowest_none l = none_between n test from to (λ i _ y a b. omega (arith, least_of i y a b))

    pub lowest_first : least < to → 0 < least → least ≤ n → only (within from to) (ids_of n test) ≡ least ∷ only (within (suc least) to) (ids_of n test)
    lowest_first l z m = first_between n test from to least z m (v.found l).0 (v.found l).1 l least_of
