-- The bounds as they are filled.
use mathlib.Core.Path.{◌≡◌, refl, sym, ap, ◌∙◌}
use mathlib.Core.List.{List}
use mathlib.Core.Bool.{true, false, cond}
use Prim.Native.Nat.{ℕ, zero, suc, ◌+◌, ◌≤◌, ◌<◌}
use native.Mathlib.Numerals.{add-one}
use native.Mathlib.Omega.{arith}
use lib.Dec.{ltb}
use lib.ListN.{length, get_or, set, length-set}
use lib.Seq.{get_or-set_same, get_or-set_other}
use borrow.Author.Tests.{lt-ltb, le-ltb, le-leb, lt-leb, leb-true, ltb-true, ne_eqb, eq-eqb}
use Rattle.lists.specs.Tests.{◌and◌}
use Rattle.lists.proofs.Tests.{by, by_eq, by_lt, and_l, and_r, both, no_first, no_second}
use Rattle.rules.specs.declared.settings.Settings.{Settings}
use Rattle.rules.specs.Numbers.{sequences}
use Rattle.layout.specs.Places.{by_id}
use Rattle.layout.proofs.Places.{of_zero}
use Rattle.store_check.specs.Places.{id_at}
use Rattle.store_check.specs.Bounds.{was_given, with_bound, next_in, Given, Filled}

-- ---- an id given
pub given_yes : (given i : ℕ) → 0 < i → i ≤ given → was_given given i ≡ true
unfolding was_given
given_yes given i h l = both _ _ (lt-ltb 0 i h) (le-leb i given l)

pub given_zero : (given i : ℕ) → i ≡ 0 → was_given given i ≡ false
unfolding was_given
given_zero given i h = no_first _ _ (le-ltb 0 i (omega arith))

pub given_far : (given i : ℕ) → given < i → was_given given i ≡ false
unfolding was_given
given_far given i h = no_second _ _ (lt-leb i given h)

pub given_facts : (given i : ℕ) → was_given given i ≡ true → (0 < i) × (i ≤ given)
unfolding was_given
given_facts given i y = (ltb-true 0 i (and_l _ _ y), leb-true i given (and_r _ _ y))

-- ---- one limit
module _ (given id next : ℕ) (l : List ℕ) where
  pub with_none : was_given given id ≡ false → with_bound given id next l ≡ l
  unfolding with_bound
  with_none e = rw e

  pub with_set : was_given given id ≡ true → with_bound given id next l ≡ set l id next
  unfolding with_bound
  with_set e = rw e

-- ---- every id given, one after the other
-- after the ids below i
pub record GivenBelow (i : ℕ) (old new : List ℕ) : Type 0 where
  pub long : length new ≡ length old
  pub each : (j : ℕ) → get_or new j 0 ≡ cond (ltb 0 j and ltb j i) sequences (get_or old j 0)

below_no : (i j : ℕ) → i ≤ j → (ltb 0 j and ltb j i) ≡ false
below_no i j h = no_second _ _ (le-ltb j i h)

pub given_start : (old : List ℕ) → GivenBelow 1 old old
given_start old = record {
  long = refl;
  each = λ j. by_lt 0 j (λ _ h. rw (below_no 1 j h)) (λ q _. rw (no_first (ltb 0 j) (ltb j 1) q));
}

pub given_turn : (i : ℕ) (old new : List ℕ) → 1 ≤ i → i < length old → GivenBelow i old new → GivenBelow (i + 1) old (set new i sequences)
given_turn i old new h l g = record {
  long = length-set new i sequences ∙ g.long;
  each = λ j. by_eq j i
      (λ _ q. let k : i < length new = rw g.long l in
      ap (λ (x : ℕ). get_or (set new i sequences) x 0) q ∙ get_or-set_same new i sequences 0 k
      ∙ rw (both (ltb 0 j) (ltb j (i + 1)) (lt-ltb 0 j (omega arith)) (lt-ltb j (i + 1) (omega arith))))
      (λ _ q. get_or-set_other new i j sequences 0 q ∙ g.each j ∙ other j q);
}
  where
    other : (j : ℕ) → (j ≡ i → ⊥) → cond (ltb 0 j and ltb j i) sequences (get_or old j 0) ≡ cond (ltb 0 j and ltb j (i + 1)) sequences (get_or old j 0)
    other j q =
        by_lt j i (λ r z. rw (r, lt-ltb j (i + 1) (omega arith))) (λ r z. rw (r, le-ltb j (i + 1) (omega arith)))

pub given_end : (given i : ℕ) (old new : List ℕ) → i ≤ given + 1 → given < i → GivenBelow i old new → Given given old new
unfolding was_given
given_end given i old new h l g = record {
  long = g.long;
  each = λ j. g.each j ∙ by_lt j i (λ r z. rw (r, le-leb j given (omega arith))) (λ r z. rw (r, lt-leb j given (omega arith)));
}

-- ---- the bricks at the places, one after the other
of_other : (p : ℕ) (ids : ℕ → ℕ) (d : ℕ) (f : ℕ → ℕ) (i : ℕ) → (ids p ≡ i → ⊥) → by_id (suc p) ids d f i ≡ by_id p ids d f i
unfolding by_id
of_other p ids d f zero h = sym (of_zero p ids d f)
of_other p ids d f (suc i) h = rw (ne_eqb (ids p) (suc i) h)

of_this : (p : ℕ) (ids : ℕ → ℕ) (d : ℕ) (f : ℕ → ℕ) (i : ℕ) → ids p ≡ i → 0 < i → by_id (suc p) ids d f i ≡ f p
unfolding by_id
of_this p ids d f zero e h = absurd (omega arith)
of_this p ids d f (suc i) e h = rw (eq-eqb (ids p) (suc i) e)

module _ (c : Settings) (given : ℕ) (ws : List ℕ) (old : List ℕ) where
  pub fill_start : Filled c given ws 0 old old
  unfolding by_id
  fill_start = record { long = refl; each = λ i. by (was_given given i) (λ q. rw q) (λ q. rw q) }

  module _ (p : ℕ) (new : List ℕ) (few : given < length old) (f : Filled c given ws p old new) (id next : ℕ) (ei : id ≡ id_at c ws p)
      (en : next ≡ next_in c ws p) where
    abbrev seen : ℕ → ℕ → ℕ
    seen n i = cond (was_given given i) (by_id n (id_at c ws) (get_or old i 0) (next_in c ws) i) (get_or old i 0)

    unseen : (i : ℕ) → (id ≡ i → ⊥) → seen p i ≡ seen (suc p) i
    unseen i h = rw (of_other p (id_at c ws) (get_or old i 0) (next_in c ws) i (λ e. h (ei ∙ e)))

    same : (i : ℕ) → id ≡ i → was_given given id ≡ true → next ≡ seen (suc p) i
    same i e y =
        let g = given_facts given id y in
        rw (ap (was_given given) (sym e) ∙ y, of_this p (id_at c ws) (get_or old i 0) (next_in c ws) i (sym ei ∙ e) (omega arith)) en

    untouched : (i : ℕ) → was_given given id ≡ false → seen p i ≡ seen (suc p) i
    untouched i n = by_eq id i (λ _ e. rw (ap (was_given given) (sym e) ∙ n)) (λ _ e. unseen i e)

    pub fill_turn : Filled c given ws (p + 1) old (with_bound given id next new)
    fill_turn =
        rw (add-one p)
        (by (was_given given id)
        (λ y. let g = given_facts given id y in
        let k : id < length new = rw f.long (omega arith) in
        rw (with_set given id next new y) (record {
          long = length-set new id next ∙ f.long;
          each = λ i. by_eq id i
              (λ _ e. ap (λ (x : ℕ). get_or (set new id next) x 0) (sym e) ∙ get_or-set_same new id next 0 k ∙ same i e y)
              (λ _ e. get_or-set_other new id i next 0 (λ z. e (sym z)) ∙ f.each i ∙ unseen i e);
        }))
        (λ n. rw (with_none given id next new n) (record { long = f.long; each = λ i. f.each i ∙ untouched i n })))
