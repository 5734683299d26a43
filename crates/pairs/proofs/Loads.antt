-- The walk: who stays, and that no member ends above the share.
use mathlib.Core.Path.{◌≡◌, refl, sym, ◌∙◌}
use mathlib.Core.List.{List}
use mathlib.Core.Bool.{true, false}
use Prim.Native.Nat.{ℕ, zero, suc, ◌+◌, ◌*◌, ◌-◌, ◌/◌, ◌%◌, ◌≤◌, ◌<◌}
use native.Mathlib.Omega.{arith}
use lib.Dec.{ltb}
use lib.ListN.{length, set}
use lib.Seq.{get_or-set_same, get_or-set_other}
use Rattle.lists.specs.Tests.{◌and◌}
use Rattle.lists.proofs.Tests.{by, by_eq, by_lt}
use Rattle.rules.specs.Pairs.{Assignments, id_in, among, load, least_loaded, give_way, walk_at, in_order, share, filled, walked, pairs}
use Rattle.pairs.specs.Claims.{Members, Buckets, ViewPairs}
use Rattle.pairs.proofs.Least.{least_le}
use Rattle.pairs.proofs.Steps.{give_is}
use Rattle.pairs.proofs.Facts.{Pairs, filled_length, walk_length, walked_length, filled_full, walked_apart, pairs_apart, pairs_length, settled}
use Rattle.pairs.proofs.Counts.{load_set, one_same, one_other, one_le, holds, not_all_full, share_covers, beside}

-- ---- one step of the walk
module _ (ms : List ℕ) (c k j : ℕ) (s : Assignments) (hk : k < length s) where
  -- who has c keeps c
  full_stays : (z : ℕ) → c ≤ load s z → c ≤ load (give_way ms c k j s) z
  full_stays z h =
      give_is ms c k j s (λ t. c ≤ load t z) h
      (λ x _ over _ _. by_eq (id_in s k) z
      (λ _ e. let o : c < load s z = rw e at over in omega (arith, load_set s k x z hk, one_same (id_in s k) z e))
      (λ _ n. omega (arith, load_set s k x z hk, one_other (id_in s k) z n)))

  -- who has more than c had more before
  over_before : (z : ℕ) → c < load (give_way ms c k j s) z → c < load s z
  over_before z =
      give_is ms c k j s (λ t. c < load t z → c < load s z) (λ h. h)
      (λ x _ _ _ low. by_eq x z
      (λ _ e h. let l : load s z < c = rw e at low in absurd (omega (arith, load_set s k x z hk, one_le x z)))
      (λ _ n h. omega (arith, load_set s k x z hk, one_other x z n)))

  -- only position k changes, and only where its holder has more than c
  elsewhere : (i : ℕ) → (i ≡ k → ⊥) → id_in (give_way ms c k j s) i ≡ id_in s i
  elsewhere i n = give_is ms c k j s (λ t. id_in t i ≡ id_in s i) refl (λ x _ _ _ _. get_or-set_other s k i x 0 n)

  gave_over : (i : ℕ) → (id_in (give_way ms c k j s) i ≡ id_in s i → ⊥) → c < load s (id_in s i)
  gave_over i =
      give_is ms c k j s (λ t. (id_in t i ≡ id_in s i → ⊥) → c < load s (id_in s i)) (λ n. absurd (n refl))
      (λ x _ over _ _ n. by_eq i k (λ _ e. rw e over) (λ _ d. absurd (n (get_or-set_other s k i x 0 d))))

  light_stays : (z : ℕ) → load s z ≤ c → load (give_way ms c k j s) z ≤ c
  light_stays z h = by_lt c (load (give_way ms c k j s) z) (λ _ l. absurd (omega (arith, over_before z l))) (λ _ l. l)

  holder_stays : (z i : ℕ) → load s z ≤ c → id_in s i ≡ z → id_in (give_way ms c k j s) i ≡ z
  holder_stays z i h e = by_eq (id_in (give_way ms c k j s) i) (id_in s i) (λ _ q. q ∙ e) (λ _ n. let o = rw e at (gave_over i n) in absurd (omega arith))

-- ---- a walk keeps what its steps keep
module _ (n : ℕ) (ms : List ℕ) (c role : ℕ) (P : Assignments → Type 0)
    (step : (g : ℕ) (s : Assignments) → g < n → length s ≡ 2 * n → P s → P (walk_at ms c role g s)) (s : Assignments) (hl : length s ≡ 2 * n) where
  walk_to : (m : ℕ) → m ≤ n → P s → P (in_order m (walk_at ms c role) s)
  unfolding in_order
  walk_to zero h p = p
  walk_to (suc m) h p = step m (in_order m (walk_at ms c role) s) (omega arith) (walk_length m ms c role s ∙ hl) (walk_to m (omega arith) p)

  walk_keeps : P s → P (in_order n (walk_at ms c role) s)
  walk_keeps = walk_to n (omega arith)

-- ---- a brick that has no more than the share keeps its positions in the walks
pub record Stays (c x : ℕ) (s t : Assignments) : Type 0 where
  pub light : load t x ≤ c
  pub assigned : (i : ℕ) → id_in s i ≡ x → id_in t i ≡ x

walk_stays : (n : ℕ) (ms : List ℕ) (c role x : ℕ) → role ≤ 1 → (s : Assignments) → length s ≡ 2 * n → load s x ≤ c → Stays c x s (in_order n (walk_at ms c role) s)
walk_stays n ms c role x hr s hl h =
    walk_keeps n ms c role (Stays c x s)
    (λ g t hg ht p. let k = 2 * g + role in
    let j = 2 * g + (1 - role) in
    let hk : k < length t = omega arith in
    record { light = light_stays ms c k j t hk x p.light; assigned = λ i e. holder_stays ms c k j t hk x i p.light (p.assigned i e) })
    s hl (record { light = h; assigned = λ i e. e })

pub walked_stays : (n : ℕ) (ms : List ℕ) (c x : ℕ) (s : Assignments) → length s ≡ 2 * n → load s x ≤ c → Stays c x s (walked n ms c s)
unfolding walked
walked_stays n ms c x s hl h =
    let a = walk_stays n ms c 1 x (omega arith) s hl h in
    let b = walk_stays n ms c 0 x (omega arith) (in_order n (walk_at ms c 1) s) (walk_length n ms c 1 s ∙ hl) a.light in
    record { light = b.light; assigned = λ i e. b.assigned i (a.assigned i e) }

-- ---- no member ends above the share
-- x in position k beside position j, if it has more than c, could give way to nobody
abbrev Stuck : List ℕ → ℕ → ℕ → Assignments → ℕ → ℕ → Type 0
Stuck ms c x s k j = id_in s k ≡ x → c < load s x → (z : ℕ) → among ms z ≡ true → (z ≡ x → ⊥) → (z ≡ id_in s j → ⊥) → c ≤ load s z

-- as give-is, with what is known where nobody gives way
give_or_full : (ms : List ℕ) (c k j : ℕ) (s : Assignments) (P : Assignments → Type 0)
    → ((c < load s (id_in s k) → (least_loaded s ms (id_in s k) (id_in s j) ≡ 0 → ⊥) → c ≤ load s (least_loaded s ms (id_in s k) (id_in s j))) → P s)
    → ((x : ℕ) → load s x < c → P (set s k x)) → P (give_way ms c k j s)
unfolding give_way ◌and◌
give_or_full ms c k j s P ps px =
    let x = least_loaded s ms (id_in s k) (id_in s j) in
    by_lt (load s x) c
    (λ q l. by_lt c (load s (id_in s k))
    (λ t m. by_lt 0 x (λ u v. rw (q, t, u) (px x l)) (λ u v. rw (q, t, u) (ps (λ _ n. absurd (n (omega arith))))))
    (λ t m. rw (q, t) (ps (λ h. absurd (omega arith)))))
    (λ q l. by (ltb c (load s (id_in s k))) (λ t. by (ltb 0 x) (λ u. rw (q, t, u) (ps (λ _ _. l))) (λ u. rw (q, t, u) (ps (λ _ _. l))))
    (λ t. rw (q, t) (ps (λ _ _. l))))

module _ (ms : List ℕ) (c k j x : ℕ) (s : Assignments) (hk : k < length s) where
  stuck_kept : (i l : ℕ) → (i ≡ k → ⊥) → Stuck ms c x s i l → Stuck ms c x (give_way ms c k j s) i l
  stuck_kept i l n h e over z m nx nl =
      full_stays ms c k j s hk z
      (by_eq z (id_in s l)
      (λ _ q. let o : c < load s z = rw q (gave_over ms c k j s hk l (λ f. nl (q ∙ sym f))) in omega arith)
      (λ _ d. h (sym (elsewhere ms c k j s hk i n) ∙ e) (over_before ms c k j s hk x over) z m nx d))

  stuck_made : among ms 0 ≡ false → (j ≡ k → ⊥) → Stuck ms c x (give_way ms c k j s) k j
  stuck_made z0 d =
      give_or_full ms c k j s (λ t. Stuck ms c x t k j)
      (λ full e over z m nx nl.
      let b = least_le s ms (id_in s k) (id_in s j) z z0 m (λ q. nx (q ∙ e)) nl in
      let f : c < load s (id_in s k) = rw e over in
      omega (arith, full f b.found, b.leads.fewest))
      (λ y low e over z m nx nl.
      let q : y ≡ x = sym (get_or-set_same s k y 0 hk) ∙ e in
      let l : load s x < c = rw q at low in
      absurd (omega (arith, load_set s k y x hk, one_le y x)))

module _ (n : ℕ) (ms : List ℕ) (c : ℕ) (z0 : among ms 0 ≡ false) (x : ℕ) where
  -- after a walk, in every position of its role
  walk_stuck : (role : ℕ) → role ≤ 1 → (s : Assignments) → length s ≡ 2 * n → (m : ℕ) → m ≤ n → (g : ℕ) → g < m
      → Stuck ms c x (in_order m (walk_at ms c role) s) (2 * g + role) (2 * g + (1 - role))
  unfolding in_order
  walk_stuck role hr s hl zero hm g hg = absurd (omega arith)
  walk_stuck role hr s hl (suc m) hm g hg =
      let t = in_order m (walk_at ms c role) s in
      let ht : length t ≡ 2 * n = walk_length m ms c role s ∙ hl in
      let hk : 2 * m + role < length t = omega arith in
      by_eq g m (λ _ e. rw e (stuck_made ms c (2 * m + role) (2 * m + (1 - role)) x t hk z0 (λ q. omega arith)))
      (λ _ d. stuck_kept ms c (2 * m + role) (2 * m + (1 - role)) x t hk (2 * g + role) (2 * g + (1 - role)) (λ q. d (omega arith))
      (walk_stuck role hr s hl m (omega arith) g (omega (arith, d))))

  -- after both walks, in every position
  backups_stuck : (s : Assignments) → length s ≡ 2 * n → (g : ℕ) → g < n → Stuck ms c x (walked n ms c s) (2 * g + 1) (2 * g + 0)
  unfolding walked
  backups_stuck s hl g hg =
      let t = in_order n (walk_at ms c 1) s in
      walk_keeps n ms c 0 (λ u. Stuck ms c x u (2 * g + 1) (2 * g + 0))
      (λ h u hh hu p. stuck_kept ms c (2 * h + 0) (2 * h + 1) x u (omega arith) (2 * g + 1) (2 * g + 0) (λ q. omega arith) p)
      t (walk_length n ms c 1 s ∙ hl) (walk_stuck 1 (omega arith) s hl n (omega arith) g hg)

  primaries_stuck : (s : Assignments) → length s ≡ 2 * n → (g : ℕ) → g < n → Stuck ms c x (walked n ms c s) (2 * g + 0) (2 * g + 1)
  unfolding walked
  primaries_stuck s hl g hg = walk_stuck 0 (omega arith) (in_order n (walk_at ms c 1) s) (walk_length n ms c 1 s ∙ hl) n (omega arith) g hg

-- where x has more than c, positions of both roles being stuck, and y beside x somewhere: all but x and y have c, so y has fewer, so y is beside x everywhere
module _ (n : ℕ) (ms : List ℕ) (o : Members ms) (c : ℕ) (covers : 2 * n ≤ length ms * c) (x : ℕ) (mx : among ms x ≡ true)
    (u : Assignments) (hl : length u ≡ 2 * n) (over : c < load u x)
    (stuck : Buckets n (λ g a b. Stuck ms c x u (2 * g) (2 * g + 1) × Stuck ms c x u (2 * g + 1) (2 * g)) u) where
  never : (y : ℕ) → among ms y ≡ true → (y ≡ x → ⊥) → ((z : ℕ) → among ms z ≡ true → (z ≡ x → ⊥) → (z ≡ y → ⊥) → c ≤ load u z) → ⊥
  never y my ny full =
      by_lt (load u y) c
      (λ _ l. let b = beside n u x y hl (λ e. ny (sym e)) (λ g hg. (
        λ e. by_eq (id_in u (2 * g + 1)) y (λ _ q. q) (λ _ q. absurd (omega (arith, (stuck g hg).0 e over y my ny (λ r. q (sym r))))),
        λ e. by_eq (id_in u (2 * g)) y (λ _ q. q) (λ _ q. absurd (omega (arith, (stuck g hg).1 e over y my ny (λ r. q (sym r))))),
      )) in
      omega arith)
      (λ _ l. not_all_full ms o.distinct u c x (omega arith)
      (λ z m. by_eq z x (λ _ e. rw e (omega arith)) (λ _ nx. by_eq z y (λ _ e. rw e l) (λ _ nz. full z m nx nz))) mx over)

  over_never : Buckets n (Pairs ms) u → ⊥
  over_never h =
      let r = holds u x (omega arith) in
      let g = r.0 / 2 in
      let hg : g < n = omega arith in
      let p = h g hg in
      by_eq (r.0 % 2) 0
      (λ _ e. let k : id_in u (2 * g) ≡ x = let q : 2 * g ≡ r.0 = omega arith in rw q r.2 in
      never (id_in u (2 * g + 1)) p.backup (λ f. p.apart (k ∙ sym f)) ((stuck g hg).0 k over))
      (λ _ e. let k : id_in u (2 * g + 1) ≡ x = let q : 2 * g + 1 ≡ r.0 = omega (arith, e) in rw q r.2 in
      never (id_in u (2 * g)) p.primary (λ f. p.apart (f ∙ sym k)) ((stuck g hg).1 k over))

pub walked_load : (n : ℕ) (ms : List ℕ) → Members ms → (c : ℕ) → 2 * n ≤ length ms * c → (s : Assignments) → length s ≡ 2 * n → Buckets n (Pairs ms) s
    → (x : ℕ) → among ms x ≡ true → load (walked n ms c s) x ≤ c
walked_load n ms o c covers s hl h x mx =
    let u = walked n ms c s in
    by_lt c (load u x)
    (λ _ over. absurd (over_never n ms o c covers x mx u (walked_length n ms c s ∙ hl) over
    (λ g hg. let e : 2 * g + 0 ≡ 2 * g = omega arith in (
      rw e at (primaries_stuck n ms c o.no_zero x s hl g hg),
      rw e at
          (backups_stuck n ms c o.no_zero x s hl g hg),
    ))
    (walked_apart n ms o c s hl h)))
    (λ _ l. l)

pub pairs_load : (n : ℕ) (ms : List ℕ) → Members ms → (last : Assignments) → length last ≡ 2 * n → (x : ℕ) → among ms x ≡ true
    → load (pairs n ms last) x ≤ share n (length ms)
unfolding pairs
pairs_load n ms o last hl =
    walked_load n ms o (share n (length ms)) (share_covers n (length ms) (omega arith)) (filled n ms last) (filled_length n ms last ∙ hl)
    (λ g h. (filled_full n ms o last hl g h).apart)

-- the next view with the same members changes nothing
pub pairs_again : (n : ℕ) (ms : List ℕ) → Members ms → (last : Assignments) → length last ≡ 2 * n → pairs n ms (pairs n ms last) ≡ pairs n ms last
pairs_again n ms o last hl = settled n ms o (pairs n ms last) (pairs_apart n ms o last hl) (pairs_load n ms o last hl)

pub view_pairs : (n : ℕ) (ms : List ℕ) → Members ms → (last : Assignments) → length last ≡ 2 * n → ViewPairs n ms last
unfolding pairs
view_pairs n ms o last hl =
    record {
      count = pairs_length n ms last ∙ hl;
      apart = pairs_apart n ms o last hl;
      fair = pairs_load n ms o last hl;
      again = pairs_again n ms o last hl;
      held = λ g hg. (filled_full n ms o last hl g hg).held;
      stays = λ x k h e. (walked_stays n ms (share n (length ms)) x (filled n ms last) (filled_length n ms last ∙ hl) h).assigned k e;
    }
