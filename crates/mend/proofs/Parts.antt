-- The chunks that are added, part by part: those of the parts so far, and at most those that are named beyond them.
use mathlib.Core.Path.{◌≡◌, refl, ap, ◌∙◌}
use mathlib.Core.Logic.{inl, inr}
use mathlib.Core.Bool.{Bool, true, false, not}
use mathlib.Core.List.{List, [], ◌∷◌}
use Prim.Native.Nat.{ℕ, zero, suc, ◌+◌, ◌≤◌, ◌<◌}
use native.Mathlib.Nat.{le_of_suc-le-suc}
use native.Mathlib.Omega.{arith}
use lib.Dec.{leb}
use lib.ListN.{length, take}
use lib.Seq.{take_all}
use borrow.Author.Tests.{ltb-true, le-leb, lt-leb}
use Rattle.lists.specs.Tests.{◌and◌, any, count_below}
use Rattle.lists.proofs.Tests.{by, by_lt, impossible, and_l, and_r, or_l, or_r, or_cases, no_first, no_second}
use Rattle.words.specs.Words.{words}
use Rattle.rules.specs.declared.settings.Settings.{Settings}
use Rattle.rules.specs.Numbers.{home_of}
use Rattle.rules.specs.Chunks.{Chunk, held}
use Rattle.rules.specs.State.{State}
use Rattle.rules.specs.Derived.{members_from, holder}
use Rattle.rules.proofs.Derived.{first_holder_held}
use Rattle.layout.specs.Store.{decode}
use Rattle.lent.specs.Stores.{StoreOf}
use Rattle.named.specs.Tables.{named}
use Rattle.mend.specs.Keys.{key_at, before, wants, lacks, adds, counted, added, part_rows, lies_below, in_part, beyond_part, adds_below, adds_inside, lacks_beyond}
use Rattle.mend.specs.Counts.{InAll}
use Rattle.mend.proofs.Flagged.{log_room}
use Rattle.mend.proofs.Mending.{one}

-- ---- sums of entries that meet a test
module _ (s : State) (f g h : ℕ → ℕ → Bool) (e : (j i : ℕ) → one (f j i) + one (g j i) ≡ one (h j i)) where
  two_below : (j n : ℕ) → count_below n (f j) + count_below n (g j) ≡ count_below n (h j)
  unfolding count_below
  two_below j zero = refl
  two_below j (suc n) = omega (arith, two_below j n, e j n)

  sum_two : (n : ℕ) → counted s f n + counted s g n ≡ counted s h n
  unfolding counted
  sum_two zero = refl
  sum_two (suc n) = omega (arith, sum_two n, two_below n (length (named s n)))

module _ (s : State) (f g : ℕ → ℕ → Bool) (e : (j i : ℕ) → one (f j i) ≤ one (g j i)) where
  most_below : (j n : ℕ) → count_below n (f j) ≤ count_below n (g j)
  unfolding count_below
  most_below j zero = omega arith
  most_below j (suc n) = omega (arith, most_below j n, e j n)

  sum_most : (n : ℕ) → counted s f n ≤ counted s g n
  unfolding counted
  sum_most zero = omega arith
  sum_most (suc n) = omega (arith, sum_most n, most_below n (length (named s n)))

module _ (s : State) (f : ℕ → ℕ → Bool) (e : (j i : ℕ) → f j i ≡ false) where
  none_below : (j n : ℕ) → count_below n (f j) ≡ 0
  unfolding count_below
  none_below j zero = refl
  none_below j (suc n) = omega (arith, none_below j n, ap one (e j n))

  sum_none : (n : ℕ) → counted s f n ≡ 0
  unfolding counted
  sum_none zero = refl
  sum_none (suc n) = omega (arith, sum_none n, none_below n (length (named s n)))

-- ---- rows
held_more : (l : List Chunk) (k row top : ℕ) → row ≤ top → held (take row l) k ≡ true → held (take top l) k ≡ true
unfolding held any
held_more l k zero top p h = impossible h
held_more l k (suc row) zero p h = absurd (omega arith)
held_more [] k (suc row) (suc top) p h = h
held_more (c ∷ cs) k (suc row) (suc top) p h = elim (or_cases _ _ h) [
  | inl q ↦ or_l _ _ q
  | inr q ↦ or_r _ _ (held_more cs k row top (le_of_suc-le-suc p) q)
]

below_none : (s : State) (k : ℕ) → lies_below s 0 k ≡ false
unfolding lies_below held any
below_none s k = refl

-- an entry is counted in one part
split : (a b d : Bool) → (b ≡ true → d ≡ true) → one (a and b) + one (a and (not b and d)) ≡ one (a and d)
unfolding ◌and◌
split false b d h = omega arith
split true true d h = omega (arith, ap one (h refl))
split true false d h = omega arith

rest : (a b : Bool) → one (a and b) + one (a and not b) ≡ one a
unfolding ◌and◌
rest false b = omega arith
rest true true = omega arith
rest true false = omega arith

fewer : (a b d : Bool) → one ((a and b) and d) ≤ one (a and d)
unfolding ◌and◌
fewer true true d = omega arith
fewer true false d = omega arith
fewer false b d = omega arith

module _ (s : State) (id n : ℕ) where
  -- no part yet
  pub parts_start : counted s (adds_below s id 0) n ≡ 0
  parts_start = sum_none s (adds_below s id 0) (λ j i. unfold adds_below in no_second _ _ (below_none s (key_at s j i))) n

  -- one part more
  parts_more : (base : ℕ) → counted s (adds_below s id base) n + counted s (adds_inside s id base) n ≡ counted s (adds_below s id (base + part_rows)) n
  parts_more base = sum_two s (adds_below s id base) (adds_inside s id base) (adds_below s id (base + part_rows)) once n
    where
      grows : (k : ℕ) → lies_below s base k ≡ true → lies_below s (base + part_rows) k ≡ true
      grows k = unfold lies_below in held_more (s.bricks.log (holder s k)) k base (base + part_rows) (omega arith)

      once : (j i : ℕ) → one (adds_below s id base j i) + one (adds_inside s id base j i) ≡ one (adds_below s id (base + part_rows) j i)
      once j i =
          let k = key_at s j i in
          unfold adds_below adds_inside in_part in split (adds s id j i) (lies_below s base k) (lies_below s (base + part_rows) k) (grows k)

  -- the others
  abbrev above : ℕ → ℕ → ℕ → Bool
  above row g i = adds s id g i and not (lies_below s row (key_at s g i))

  parts_rest : (row : ℕ) → counted s (adds_below s id row) n + counted s (above row) n ≡ added s id n
  parts_rest row = sum_two s (adds_below s id row) (above row) (adds s id) once n
    where
      once : (j i : ℕ) → one (adds_below s id row j i) + one (above row j i) ≡ one (adds s id j i)
      once j i = unfold adds_below in rest (adds s id j i) (lies_below s row (key_at s j i))

  above_few : (base : ℕ) → counted s (above (base + part_rows)) n ≤ counted s (lacks_beyond s id base) n
  above_few base = sum_most s (above (base + part_rows)) (lacks_beyond s id base) once n
    where
      once : (j i : ℕ) → one (above (base + part_rows) j i) ≤ one (lacks_beyond s id base j i)
      once j i =
          let k = key_at s j i in
          unfold lacks_beyond beyond_part adds in fewer (lacks s id k) (not (before s j i k)) (not (lies_below s (base + part_rows) k))

  module _ (base count inside beyond : ℕ) (e : count ≡ counted s (adds_below s id base) n) (h : InAll s id base n inside beyond) where
    pub part_turn : count + inside ≡ counted s (adds_below s id (base + part_rows)) n
    part_turn = omega (arith, e, h.here, parts_more base)

    -- there is room for these and for all that are named beyond
    pub enough : (room : ℕ) → (count + inside) + beyond ≤ room → leb (added s id n) room ≡ true
    enough room l = le-leb (added s id n) room (omega (arith, part_turn, l, h.far, parts_rest (base + part_rows), above_few base))

  -- these are too many
  pub too_many : (base count room : ℕ) → count ≡ counted s (adds_below s id base) n → room < count → leb (added s id n) room ≡ false
  too_many base count room e l = lt-leb (added s id n) room (omega (arith, e, l, parts_rest base))

-- ---- the last part
module _ (c : Settings) (bs : List ℕ) (v : StoreOf c bs) (id : ℕ) where
  abbrev t : State
  t = decode (words bs)

  some_holder : (k : ℕ) → lacks t id k ≡ true → 0 < holder t k
  unfolding lacks wants
  some_holder k y = ltb-true 0 (holder t k) (and_r _ _ (and_l _ _ y))

  holder_has : (k : ℕ) → lacks t id k ≡ true → held (t.bricks.log (holder t k)) k ≡ true
  unfolding holder
  holder_has k y = first_holder_held t.bricks k (members_from t (home_of k)) (some_holder k y)

  in_rows : (row k : ℕ) → c.chunks ≤ row → lacks t id k ≡ true → lies_below t row k ≡ true
  unfolding lies_below
  in_rows row k l y =
      ap (λ (m : List Chunk). held m k) (take_all row (t.bricks.log (holder t k)) (omega (arith, l, log_room c bs v (holder t k)))) ∙ holder_has k y

  none_far : (base j i : ℕ) → c.chunks ≤ base + part_rows → lacks_beyond t id base j i ≡ false
  unfolding lacks_beyond beyond_part
  none_far base j i l =
      let k = key_at t j i in
      by (lacks t id k) (λ y. no_second _ _ (ap not (in_rows (base + part_rows) k l y))) (λ n. no_first _ _ n)

  -- a count beyond a part says that there are rows beyond it
  pub rows_left : (base n inside beyond : ℕ) → InAll t id base n inside beyond → 0 < beyond → base + part_rows < c.chunks
  rows_left base n inside beyond h p =
      by_lt (base + part_rows) c.chunks (λ _ l. l)
      (λ _ l. absurd (omega (arith, p, h.far, sum_none t (lacks_beyond t id base) (λ j i. none_far base j i l) n)))
