-- Laws of membership and of the least loaded member.
use mathlib.Core.Path.{◌≡◌, refl, sym, ◌∙◌}
use mathlib.Core.List.{List, [], ◌∷◌}
use mathlib.Core.Bool.{true, false}
use Prim.Native.Nat.{ℕ, ◌≤◌}
use native.Mathlib.Omega.{arith}
use lib.Dec.{eqb}
use borrow.Author.Tests.{eq-eqb, ne_eqb}
use Rattle.lists.specs.Tests.{◌and◌, ◌or◌}
use Rattle.lists.proofs.Tests.{by, by_eq, by_lt, either, eqb_self, impossible, clash}
use Rattle.rules.specs.Pairs.{Assignments, among, load, preferred, choose, least_loaded}
use Rattle.pairs.specs.Claims.{Members}

-- ---- membership
pub among_head : (m : ℕ) (ms : List ℕ) → among (m ∷ ms) m ≡ true
unfolding among ◌or◌
among_head m ms = cc (eqb_self m)

pub among_tail : (m i : ℕ) (ms : List ℕ) → among ms i ≡ true → among (m ∷ ms) i ≡ true
unfolding among ◌or◌
among_tail m i ms h = by (eqb m i) (λ q. cc) (λ q. cc)

pub among_cases {ℓ} : {P : Type ℓ} (m i : ℕ) (ms : List ℕ) → among (m ∷ ms) i ≡ true → (m ≡ i → P) → ((m ≡ i → ⊥) → among ms i ≡ true → P) → P
unfolding among ◌or◌
among_cases m i ms h t f = by_eq m i (λ q e. t e) (λ q n. f n (rw q at h))

pub among_not : (m i : ℕ) (ms : List ℕ) → among (m ∷ ms) i ≡ false → (m ≡ i → ⊥) × (among ms i ≡ false)
unfolding among ◌or◌
among_not m i ms h = by_eq m i (λ q e. impossible (sym h ∙ rw q)) (λ q n. (n, rw q at h))

pub not_zero : (ms : List ℕ) (i : ℕ) → among ms 0 ≡ false → among ms i ≡ true → i ≡ 0 → ⊥
not_zero ms i z h e = clash z (rw e at h)

-- of two members at least, one is not y
pub another : (ms : List ℕ) (y : ℕ) → Members ms → (m : ℕ) × (among ms m ≡ true) × (m ≡ y → ⊥)
another [] y o = absurd (omega arith)
another (a ∷ []) y o = absurd (omega arith)
another (a ∷ b ∷ ms) y o =
    by_eq a y (λ q e. (b, among_tail a b (b ∷ ms) (among_head b ms), λ f. (among_not b a ms o.distinct.0).0 (f ∙ sym e)))
    (λ q n. (a, among_head a (b ∷ ms), n))

-- ---- the order of preference
-- r has no more than z, and is no higher where it has as many
pub record Leads (s : Assignments) (r z : ℕ) : Type 0 where
  pub fewest : load s r ≤ load s z
  pub lowest : load s r ≡ load s z → r ≤ z

leads_trans : (s : Assignments) (x y z : ℕ) → Leads s x y → Leads s y z → Leads s x z
leads_trans s x y z p q =
    record {
      fewest = omega (arith, p.fewest, q.fewest);
      lowest = λ e.
          let f : load s x ≡ load s y = omega (arith, p.fewest, q.fewest) in
          let g : load s y ≡ load s z = omega (arith, p.fewest, q.fewest) in
          omega (arith, p.lowest f, q.lowest g);
    }

pub leads_same : (s : Assignments) (x y : ℕ) → Leads s x y → Leads s y x → x ≡ y
leads_same s x y p q =
    let e : load s x ≡ load s y = omega (arith, p.fewest, q.fewest) in
    omega (arith, p.lowest e, q.lowest (sym e))

preferred_yes : (s : Assignments) (m r : ℕ) → preferred s m r ≡ true → (r ≡ 0 → ⊥) → Leads s m r
unfolding preferred ◌or◌ ◌and◌
preferred_yes s m r h n =
    by_lt (load s m) (load s r) (λ q l. record { fewest = omega arith; lowest = λ e. absurd (omega arith) })
    (λ q l. by_eq (load s m) (load s r)
    (λ t e. by_lt m r (λ u v. record { fewest = omega arith; lowest = λ _. omega arith }) (λ u v. impossible (sym (cc (ne_eqb r 0 n)) ∙ h)))
    (λ t e. impossible (sym (cc (ne_eqb r 0 n)) ∙ h)))

preferred_no : (s : Assignments) (m r : ℕ) → preferred s m r ≡ false → (r ≡ 0 → ⊥) × Leads s r m
unfolding preferred ◌or◌ ◌and◌
preferred_no s m r h =
    by_eq r 0 (λ q e. impossible (sym h ∙ cc))
    (λ q n. (
      n,
      by_lt (load s m) (load s r) (λ t l. impossible (sym h ∙ cc))
          (λ t l. record { fewest = l; lowest = λ e. by_lt m r (λ u v. impossible (sym h ∙ cc (eq-eqb (load s m) (load s r) (sym e)))) (λ u v. v) }),
    ))

-- ---- the least loaded member
pub choose_is : (P : ℕ → Type 0) (s : Assignments) (a b m r : ℕ) → P r → ((m ≡ a → ⊥) → (m ≡ b → ⊥) → preferred s m r ≡ true → P m) → P (choose s a b m r)
unfolding choose ◌or◌
choose_is P s a b m r pr pm =
    by_eq m a (λ q e. rw q pr) (λ q n. by_eq m b (λ t e. rw (q, t) pr)
    (λ t k. rw (q, t) (either P (preferred s m r) (λ u. pm n k u) (λ u. pr))))

-- a brick that is found is a member, and neither a nor b
pub record Outside (ms : List ℕ) (a b r : ℕ) : Type 0 where
  pub member : among ms r ≡ true
  pub not_a : r ≡ a → ⊥
  pub not_b : r ≡ b → ⊥

pub least_outside : (s : Assignments) (ms : List ℕ) (a b : ℕ) → (least_loaded s ms a b ≡ 0 → ⊥) → Outside ms a b (least_loaded s ms a b)
unfolding least_loaded
least_outside s [] a b = λ h. absurd (h refl)
least_outside s (m ∷ ms) a b =
    choose_is (λ x. (x ≡ 0 → ⊥) → Outside (m ∷ ms) a b x) s a b m (least_loaded s ms a b)
    (λ h. let o = least_outside s ms a b h in record { member = among_tail m (least_loaded s ms a b) ms o.member; not_a = o.not_a; not_b = o.not_b })
    (λ n k p h. record { member = among_head m ms; not_a = n; not_b = k })

-- where a member z is neither a nor b, one is found, and it leads z
pub record NoMore (s : Assignments) (z r : ℕ) : Type 0 where
  pub found : r ≡ 0 → ⊥
  pub leads : Leads s r z

least_here : (s : Assignments) (a b z r : ℕ) → (z ≡ a → ⊥) → (z ≡ b → ⊥) → (z ≡ 0 → ⊥) → NoMore s z (choose s a b z r)
unfolding choose ◌or◌
least_here s a b z r na nb n =
    rw (ne_eqb z a na, ne_eqb z b nb)
    (either (NoMore s z) (preferred s z r) (λ p. record { found = n; leads = record { fewest = omega arith; lowest = λ _. omega arith } })
    (λ p. let q = preferred_no s z r p in record { found = q.0; leads = q.1 }))

pub least_le : (s : Assignments) (ms : List ℕ) (a b z : ℕ) → among ms 0 ≡ false → among ms z ≡ true → (z ≡ a → ⊥) → (z ≡ b → ⊥) → NoMore s z (least_loaded s ms a b)
unfolding least_loaded among
least_le s [] a b z h0 hz na nb = impossible hz
least_le s (m ∷ ms) a b z h0 hz na nb =
    let r = least_loaded s ms a b in
    let nz = among_not m 0 ms h0 in
    among_cases m z ms hz (λ e. rw e (least_here s a b z r na nb (λ f. not_zero (m ∷ ms) z h0 hz f)))
    (λ n t. let o = least_le s ms a b z nz.1 t na nb in
    choose_is (NoMore s z) s a b m r o (λ _ _ p. record { found = nz.0; leads = leads_trans s m r z (preferred_yes s m r p o.found) o.leads }))
