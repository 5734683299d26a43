-- The facts about the pairs of a view.
use mathlib.Core.Path.{◌≡◌, refl, sym, ap, ◌∙◌}
use mathlib.Core.List.{List}
use mathlib.Core.Bool.{true, false}
use Prim.Native.Nat.{ℕ, zero, suc, ◌+◌, ◌*◌, ◌-◌, ◌≤◌, ◌<◌}
use native.Mathlib.Omega.{arith}
use lib.Dec.{eqb}
use lib.ListN.{length, length-set}
use borrow.Author.Tests.{ne_eqb, le-ltb}
use Rattle.lists.specs.Tests.{◌and◌}
use Rattle.lists.proofs.Tests.{either}
use Rattle.rules.specs.Pairs.{Assignments, id_in, among, load, least_loaded, keep_at, fill_position, fill_at, give_way, walk_at, in_order, share, filled, walked, pairs}
use Rattle.pairs.specs.Claims.{Members, Apart, Buckets}
use Rattle.pairs.proofs.Least.{not_zero}
use Rattle.pairs.proofs.Stages.{stage, same_pair}
use Rattle.pairs.proofs.Steps.{Left, Full, keep_step, fill_both, give_is, give_primary, give_backup, kept_member}

-- ---- the number of positions is kept
order_length : (n : ℕ) (f : ℕ → Assignments → Assignments) → ((g : ℕ) (s : Assignments) → length (f g s) ≡ length s) → (s : Assignments) → length (in_order n f s) ≡ length s
unfolding in_order
order_length zero f h s = refl
order_length (suc n) f h s = h n (in_order n f s) ∙ order_length n f h s

keep_length : (ms : List ℕ) (g : ℕ) (s : Assignments) → length (keep_at ms g s) ≡ length s
unfolding keep_at
keep_length ms g s = simp length-set

fill_length : (ms : List ℕ) (k j : ℕ) (s : Assignments) → length (fill_position ms k j s) ≡ length s
unfolding fill_position
fill_length ms k j s = either (λ (t : Assignments). length t ≡ length s) (eqb (id_in s k) 0) (λ _. length-set s k (least_loaded s ms 0 (id_in s j))) (λ _. refl)

pub give_length : (ms : List ℕ) (c k j : ℕ) (s : Assignments) → length (give_way ms c k j s) ≡ length s
give_length ms c k j s = give_is ms c k j s (λ t. length t ≡ length s) refl (λ x _ _ _ _. length-set s k x)

pub filled_length : (n : ℕ) (ms : List ℕ) (last : Assignments) → length (filled n ms last) ≡ length last
unfolding filled
filled_length n ms last =
    order_length n (fill_at ms) (λ g s. fill_length ms (2 * g + 1) (2 * g) (fill_position ms (2 * g) (2 * g + 1) s) ∙ fill_length ms (2 * g) (2 * g + 1) s)
    (in_order n (keep_at ms) last)
    ∙ order_length n (keep_at ms) (keep_length ms) last

pub walk_length : (n : ℕ) (ms : List ℕ) (c role : ℕ) (s : Assignments) → length (in_order n (walk_at ms c role) s) ≡ length s
walk_length n ms c role s = order_length n (walk_at ms c role) (λ g t. give_length ms c (2 * g + role) (2 * g + (1 - role)) t) s

pub walked_length : (n : ℕ) (ms : List ℕ) (c : ℕ) (s : Assignments) → length (walked n ms c s) ≡ length s
unfolding walked
walked_length n ms c s = walk_length n ms c 0 (in_order n (walk_at ms c 1) s) ∙ walk_length n ms c 1 s

pub pairs_length : (n : ℕ) (ms : List ℕ) (last : Assignments) → length (pairs n ms last) ≡ length last
unfolding pairs
pairs_length n ms last = walked_length n ms (share n (length ms)) (filled n ms last) ∙ filled_length n ms last

-- ---- every pair is of two different members
abbrev pub Pairs : List ℕ → ℕ → ℕ → ℕ → Type 0
Pairs ms g x y = Apart ms x y

module _ (n : ℕ) (ms : List ℕ) (o : Members ms) where
  -- after the fill, with what the last pairs left
  pub filled_full : (last : Assignments) → length last ≡ 2 * n → Buckets n (λ g x y. Full ms (id_in last (2 * g)) (id_in last (2 * g + 1)) x y) (filled n ms last)
  unfolding filled
  filled_full last hl =
      let kept_all = stage n (λ g x y. (x ≡ id_in last (2 * g)) × (y ≡ id_in last (2 * g + 1))) (λ g x y. Left ms (id_in last (2 * g)) (id_in last (2 * g + 1)) x y)
      (keep_at ms)
      (λ g s _ _ p. keep_step ms o.no_zero g s (id_in last (2 * g)) (id_in last (2 * g + 1)) p.0 p.1) last hl (λ g _. (refl, refl)) in
      stage n (λ g x y. Left ms (id_in last (2 * g)) (id_in last (2 * g + 1)) x y) (λ g x y. Full ms (id_in last (2 * g)) (id_in last (2 * g + 1)) x y) (fill_at ms)
      (λ g s hg h p. fill_both ms o g n s (id_in last (2 * g)) (id_in last (2 * g + 1)) hg h p) (in_order n (keep_at ms) last)
      (order_length n (keep_at ms) (keep_length ms) last ∙ hl) kept_all

  pub walk_apart : (c role : ℕ) → role ≤ 1 → (s : Assignments) → length s ≡ 2 * n → Buckets n (Pairs ms) s → Buckets n (Pairs ms) (in_order n (walk_at ms c role) s)
  walk_apart c zero _ s hl h =
      stage n (Pairs ms) (Pairs ms) (walk_at ms c 0) (λ g t _ _ p. let e : 2 * g + 0 ≡ 2 * g = omega arith in rw e (give_primary ms c g t p)) s hl h
  walk_apart c (suc zero) _ s hl h =
      stage n (Pairs ms) (Pairs ms) (walk_at ms c 1) (λ g t _ _ p. let e : 2 * g + 0 ≡ 2 * g = omega arith in rw e (give_backup ms c g t p)) s hl h
  walk_apart c (suc (suc r)) q s hl h = absurd (omega arith)

  pub walked_apart : (c : ℕ) (s : Assignments) → length s ≡ 2 * n → Buckets n (Pairs ms) s → Buckets n (Pairs ms) (walked n ms c s)
  unfolding walked
  walked_apart c s hl h =
      walk_apart c 0 (omega arith) (in_order n (walk_at ms c 1) s) (walk_length n ms c 1 s ∙ hl) (walk_apart c 1 (omega arith) s hl h)

  pub pairs_apart : (last : Assignments) → length last ≡ 2 * n → Buckets n (Pairs ms) (pairs n ms last)
  unfolding pairs
  pairs_apart last hl =
      walked_apart (share n (length ms)) (filled n ms last) (filled_length n ms last ∙ hl) (λ g h. (filled_full last hl g h).apart)

-- ---- nothing moves where the members are the last pairs' and no load is above the share
order_same : (n : ℕ) (f : ℕ → Assignments → Assignments) (s : Assignments) → ((g : ℕ) → g < n → f g s ≡ s) → in_order n f s ≡ s
unfolding in_order
order_same zero f s h = refl
order_same (suc n) f s h = ap (f n) (order_same n f s (λ g p. h g (omega arith))) ∙ h n (omega arith)

give_same : (ms : List ℕ) (c k j : ℕ) (s : Assignments) → load s (id_in s k) ≤ c → give_way ms c k j s ≡ s
unfolding give_way ◌and◌
give_same ms c k j s h = cc (le-ltb c (load s (id_in s k)) h)

fill_same : (ms : List ℕ) (k j : ℕ) (s : Assignments) → (id_in s k ≡ 0 → ⊥) → fill_position ms k j s ≡ s
unfolding fill_position
fill_same ms k j s h = cc (ne_eqb (id_in s k) 0 h)

keep_same : (ms : List ℕ) → among ms 0 ≡ false → (g : ℕ) (s : Assignments) → Apart ms (id_in s (2 * g)) (id_in s (2 * g + 1)) → keep_at ms g s ≡ s
unfolding keep_at
keep_same ms z g s p =
    let n = not_zero ms (id_in s (2 * g)) z p.primary in
    rw (
      kept_member ms (id_in s (2 * g)) 0 p.primary n,
      ne_eqb (id_in s (2 * g)) 0 n,
      kept_member ms (id_in s (2 * g + 1)) (id_in s (2 * g)) p.backup
          (λ e. p.apart (sym e)),
    )
    (sym (same_pair g s))

pub settled : (n : ℕ) (ms : List ℕ) → Members ms → (s : Assignments) → Buckets n (Pairs ms) s → ((i : ℕ) → among ms i ≡ true → load s i ≤ share n (length ms))
    → pairs n ms s ≡ s
unfolding pairs filled walked
settled n ms o s h l =
    let c = share n (length ms) in
    let z : (i : ℕ) → among ms i ≡ true → i ≡ 0 → ⊥ = λ i. not_zero ms i o.no_zero in
    let k : in_order n (keep_at ms) s ≡ s = order_same n (keep_at ms) s (λ g p. keep_same ms o.no_zero g s (h g p)) in
    let f : in_order n (fill_at ms) s ≡ s = order_same n (fill_at ms) s (λ g p.
    let a = fill_same ms (2 * g) (2 * g + 1) s (z (id_in s (2 * g)) (h g p).primary) in
    rw a (fill_same ms (2 * g + 1) (2 * g) s (z (id_in s (2 * g + 1)) (h g p).backup))) in
    let b : in_order n (walk_at ms c 1) s ≡ s = order_same n (walk_at ms c 1) s (λ g p. give_same ms c (2 * g + 1) (2 * g + 0) s
    (l (id_in s (2 * g + 1)) (h g p).backup)) in
    let q : in_order n (walk_at ms c 0) s ≡ s = order_same n (walk_at ms c 0) s (λ g p.
    let e : 2 * g + 0 ≡ 2 * g = omega arith in
    rw e (give_same ms c (2 * g) (2 * g + 1) s (l (id_in s (2 * g)) (h g p).primary))) in
    rw (k, f, b, q)
