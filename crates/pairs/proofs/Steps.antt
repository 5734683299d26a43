-- What each stage does at one bucket.
use mathlib.Core.Path.{◌≡◌, refl, sym, ◌∙◌}
use mathlib.Core.List.{List}
use mathlib.Core.Bool.{true, false, cond}
use Prim.Native.Nat.{ℕ, ◌+◌, ◌*◌, ◌<◌}
use native.Mathlib.Omega.{arith}
use lib.Dec.{ltb, eqb}
use lib.ListN.{length, set}
use lib.Seq.{get_or-set_same, get_or-set_other, set-get_or}
use borrow.Author.Tests.{eq-eqb, ne_eqb, ltb-true}
use Rattle.lists.specs.Tests.{◌and◌}
use Rattle.lists.proofs.Tests.{by, by_eq, either, clash, and_l, and_r}
use Rattle.rules.specs.Pairs.{Assignments, id_in, among, load, least_loaded, kept_of_pair, keep_at, fill_position, fill_at, give_way}
use Rattle.pairs.specs.Claims.{Members, Apart, Held}
use Rattle.pairs.proofs.Least.{another, not_zero, Outside, least_outside, least_le}
use Rattle.pairs.proofs.Stages.{Writes, same_pair}

-- ---- keep
module _ (ms : List ℕ) (x other : ℕ) where
  pub kept_member : among ms x ≡ true → (x ≡ other → ⊥) → kept_of_pair ms x other ≡ x
  unfolding kept_of_pair ◌and◌
  kept_member h n = cc (ne_eqb x other n)

  pub kept_gone : among ms x ≡ false → kept_of_pair ms x other ≡ 0
  unfolding kept_of_pair ◌and◌
  kept_gone h = cc

  pub kept_twice : x ≡ other → kept_of_pair ms x other ≡ 0
  unfolding kept_of_pair ◌and◌
  kept_twice e = by (among ms x) (λ q. cc (eq-eqb x other e)) (λ q. cc)

-- empty positions are allowed: an id that is there is a member, and none is there twice
pub record Proper (ms : List ℕ) (x y : ℕ) : Type 0 where
  pub first : (x ≡ 0 → ⊥) → among ms x ≡ true
  pub second : (y ≡ 0 → ⊥) → among ms y ≡ true
  pub twice : x ≡ y → x ≡ 0

-- what keep leaves of the last pair (a, b)
pub record Left (ms : List ℕ) (a b x y : ℕ) : Type 0 where
  pub proper : Proper ms x y
  pub held : Held ms a b x y

abbrev keep_one : List ℕ → ℕ → ℕ → ℕ
keep_one ms a b = cond (eqb (kept_of_pair ms a 0) 0) (kept_of_pair ms b (kept_of_pair ms a 0)) (kept_of_pair ms a 0)

abbrev keep_two : List ℕ → ℕ → ℕ → ℕ
keep_two ms a b = cond (eqb (kept_of_pair ms a 0) 0) 0 (kept_of_pair ms b (kept_of_pair ms a 0))

module _ (ms : List ℕ) (z : among ms 0 ≡ false) (a b : ℕ) where
  left_both : among ms a ≡ true → Left ms a b (keep_one ms a b) (keep_two ms a b)
  left_both h =
      let n : a ≡ 0 → ⊥ = not_zero ms a z h in
      rw (kept_member ms a 0 h n, ne_eqb a 0 n)
      (by_eq b a
      (λ q e. rw (kept_twice ms b a e) (record {
        proper = record { first = λ _. h; second = λ m. absurd (m refl); twice = λ m. m };
        held = record { primary = λ _. refl; backup = λ _ _ d. absurd (d e); lone = λ m _. clash m h };
      }))
      (λ q d. by (among ms b)
      (λ t. rw (kept_member ms b a t d) (record {
        proper = record { first = λ _. h; second = λ _. t; twice = λ m. absurd (d (sym m)) };
        held = record { primary = λ _. refl; backup = λ _ _ _. refl; lone = λ m _. clash m h };
      }))
      (λ t. rw (kept_gone ms b a t) (record {
        proper = record { first = λ _. h; second = λ m. absurd (m refl); twice = λ m. m };
        held = record { primary = λ _. refl; backup = λ _ m _. clash t m; lone = λ m _. clash m h };
      }))))

  left_lone : among ms a ≡ false → Left ms a b (keep_one ms a b) (keep_two ms a b)
  left_lone h =
      rw (kept_gone ms a 0 h)
      (by (among ms b)
      (λ t. rw (kept_member ms b 0 t (not_zero ms b z t)) (record {
        proper = record { first = λ _. t; second = λ m. absurd (m refl); twice = λ m. m };
        held = record { primary = λ m. clash h m; backup = λ m _ _. clash h m; lone = λ _ _. refl };
      }))
      (λ t. rw (kept_gone ms b 0 t) (record {
        proper = record { first = λ m. absurd (m refl); second = λ m. absurd (m refl); twice = λ m. m };
        held = record { primary = λ m. clash h m; backup = λ m _ _. clash h m; lone = λ _ m. clash t m };
      })))

  left_of : Left ms a b (keep_one ms a b) (keep_two ms a b)
  left_of = by (among ms a) left_both left_lone

pub keep_step : (ms : List ℕ) → among ms 0 ≡ false → (g : ℕ) (s : Assignments) (a b : ℕ) → id_in s (2 * g) ≡ a → id_in s (2 * g + 1) ≡ b
    → Writes (Left ms a b) g s (keep_at ms g s)
unfolding keep_at
keep_step ms z g s a b ea eb = record { x = keep_one ms a b; y = keep_two ms a b; made = rw (ea, eb); good = left_of ms z a b }

-- ---- fill: a position that holds v beside w gets x
pub record Filled (ms : List ℕ) (v w x : ℕ) : Type 0 where
  pub member : among ms x ≡ true
  pub apart : x ≡ w → ⊥
  pub same : (v ≡ 0 → ⊥) → x ≡ v

pub record Fills (ms : List ℕ) (k j : ℕ) (s : Assignments) : Type 0 where
  pub x : ℕ
  pub made : fill_position ms k j s ≡ set s k x
  pub good : Filled ms (id_in s k) (id_in s j) x

pub fill_step : (ms : List ℕ) → Members ms → (k j : ℕ) (s : Assignments) → ((id_in s k ≡ 0 → ⊥) → among ms (id_in s k) ≡ true) → (id_in s k ≡ id_in s j → id_in s k ≡ 0)
    → Fills ms k j s
unfolding fill_position
fill_step ms o k j s hm ha =
    let x = least_loaded s ms 0 (id_in s j) in
    let a = another ms (id_in s j) o in
    let f = least_le s ms 0 (id_in s j) a.0 o.no_zero a.1 (not_zero ms a.0 o.no_zero a.1) a.2 in
    let u = least_outside s ms 0 (id_in s j) f.found in
    by_eq (id_in s k) 0
    (λ q e. record { x = x; made = rw q; good = record { member = u.member; apart = u.not_b; same = λ n. absurd (n e) } })
    (λ q n. record { x = id_in s k; made = rw (q, set-get_or s k 0); good = record { member = hm n; apart = λ e. n (ha e); same = λ _. refl } })

refill : (ms : List ℕ) (v v' w w' x : ℕ) → v ≡ v' → w ≡ w' → Filled ms v w x → Filled ms v' w' x
refill ms v v' w w' x e f h = rw (e, f) at h

-- a pair of members, which has what the last pair (a, b) left
pub record Full (ms : List ℕ) (a b x y : ℕ) : Type 0 where
  pub apart : Apart ms x y
  pub held : Held ms a b x y

pub fill_both : (ms : List ℕ) → Members ms → (g n : ℕ) (s : Assignments) (a b : ℕ) → g < n → length s ≡ 2 * n → Left ms a b (id_in s (2 * g)) (id_in s (2 * g + 1))
    → Writes (Full ms a b) g s (fill_at ms g s)
fill_both ms o g n s a b hg hl p =
    let v = id_in s (2 * g) in
    let w = id_in s (2 * g + 1) in
    let one = fill_step ms o (2 * g) (2 * g + 1) s p.proper.first p.proper.twice in
    let t = set s (2 * g) one.x in
    let e1 : id_in t (2 * g) ≡ one.x = get_or-set_same s (2 * g) one.x 0 (omega arith) in
    let e2 : id_in t (2 * g + 1) ≡ w = get_or-set_other s (2 * g) (2 * g + 1) one.x 0 (λ e. omega arith) in
    let two = fill_step ms o (2 * g + 1) (2 * g) t (rw e2 p.proper.second) (rw (e1, e2) (λ e. absurd (one.good.apart (sym e)))) in
    let f : Filled ms w one.x two.x = refill ms (id_in t (2 * g + 1)) w (id_in t (2 * g)) one.x two.x e2 e1 two.good in
    let z : (i : ℕ) → among ms i ≡ true → i ≡ 0 → ⊥ = λ i. not_zero ms i o.no_zero in
    record {
      x = one.x;
      y = two.x;
      made = rw one.made two.made;
      good = record {
        apart = record { primary = one.good.member; backup = f.member; apart = λ e. f.apart (sym e) };
        held = record {
          primary = λ h. one.good.same (λ q. z a h (sym (p.held.primary h) ∙ q)) ∙ p.held.primary h;
          backup = λ h k d. f.same (λ q. z b k (sym (p.held.backup h k d) ∙ q)) ∙ p.held.backup h k d;
          lone = λ h k. one.good.same (λ q. z b k (sym (p.held.lone h k) ∙ q)) ∙ p.held.lone h k;
        };
      };
    }

-- ---- give way
module _ (ms : List ℕ) (c k j : ℕ) (s : Assignments) where
  pub give_is : (P : Assignments → Type 0) → P s
      → ((x : ℕ) → x ≡ least_loaded s ms (id_in s k) (id_in s j) → c < load s (id_in s k) → (x ≡ 0 → ⊥) → load s x < c → P (set s k x)) → P (give_way ms c k j s)
  unfolding give_way
  give_is P ps px =
      let x = least_loaded s ms (id_in s k) (id_in s j) in
      let n = load s (id_in s k) in
      either P (ltb c n and (ltb 0 x and ltb (load s x) c))
      (λ t. let r = and_r (ltb c n) (ltb 0 x and ltb (load s x) c) t in
      px x refl (ltb-true c n (and_l (ltb c n) (ltb 0 x and ltb (load s x) c) t)) (λ e. omega (arith, ltb-true 0 x (and_l (ltb 0 x) (ltb (load s x) c) r)))
      (ltb-true (load s x) c (and_r (ltb 0 x) (ltb (load s x) c) r)))
      (λ _. ps)

  pub give_outside : (x : ℕ) → x ≡ least_loaded s ms (id_in s k) (id_in s j) → (x ≡ 0 → ⊥) → Outside ms (id_in s k) (id_in s j) x
  give_outside x e n = rw e (least_outside s ms (id_in s k) (id_in s j) (λ q. n (e ∙ q)))

pub give_primary : (ms : List ℕ) (c g : ℕ) (s : Assignments) → Apart ms (id_in s (2 * g)) (id_in s (2 * g + 1))
    → Writes (Apart ms) g s (give_way ms c (2 * g) (2 * g + 1) s)
give_primary ms c g s p =
    give_is ms c (2 * g) (2 * g + 1) s (Writes (Apart ms) g s)
    (record { x = id_in s (2 * g); y = id_in s (2 * g + 1); made = same_pair g s; good = p })
    (λ x e _ n _. let o = give_outside ms c (2 * g) (2 * g + 1) s x e n in
    let q : id_in (set s (2 * g) x) (2 * g + 1) ≡ id_in s (2 * g + 1) = get_or-set_other s (2 * g) (2 * g + 1) x 0 (λ f. omega arith) in
    record {
      x = x;
      y = id_in s (2 * g + 1);
      made = sym
          (rw q at (set-get_or (set s (2 * g) x) (2 * g + 1) 0));
      good = record { primary = o.member; backup = p.backup; apart = o.not_b };
    })

pub give_backup : (ms : List ℕ) (c g : ℕ) (s : Assignments) → Apart ms (id_in s (2 * g)) (id_in s (2 * g + 1)) → Writes (Apart ms) g s (give_way ms c (2 * g + 1) (2 * g) s)
give_backup ms c g s p =
    give_is ms c (2 * g + 1) (2 * g) s (Writes (Apart ms) g s)
    (record { x = id_in s (2 * g); y = id_in s (2 * g + 1); made = same_pair g s; good = p })
    (λ x e _ n _. let o = give_outside ms c (2 * g + 1) (2 * g) s x e n in
    record {
      x = id_in s (2 * g);
      y = x;
      made = rw (set-get_or s (2 * g) 0);
      good = record {
        primary = p.primary;
        backup = o.member;
        apart = λ f. o.not_b
            (sym f);
      };
    })
