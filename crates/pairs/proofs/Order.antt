-- The pairs depend on who is a member and not on the order in which the members are listed.
use mathlib.Core.Path.{◌≡◌, refl, sym, ap, ◌∙◌}
use mathlib.Core.List.{List}
use mathlib.Core.Bool.{false}
use Prim.Native.Nat.{ℕ, zero, suc, ◌+◌, ◌*◌, ◌-◌}
use native.Mathlib.Omega.{arith}
use lib.ListN.{length}
use Rattle.lists.proofs.Tests.{by_eq}
use Rattle.rules.specs.Pairs.{Assignments, id_in, among, least_loaded, kept_of_pair, keep_at, fill_position, fill_at, give_way, walk_at, in_order, share, filled, walked, pairs}
use Rattle.pairs.specs.Claims.{Members}
use Rattle.pairs.proofs.Least.{NoMore, leads_same, least_outside, least_le}
use Rattle.pairs.proofs.Counts.{no_longer}

order_ext : (n : ℕ) (f h : ℕ → Assignments → Assignments) → ((g : ℕ) (s : Assignments) → f g s ≡ h g s) → (s : Assignments) → in_order n f s ≡ in_order n h s
unfolding in_order
order_ext zero f h e s = refl
order_ext (suc n) f h e s = e n (in_order n f s) ∙ ap (h n) (order_ext n f h e s)

module _ (ms ns : List ℕ) (same : (i : ℕ) → among ms i ≡ among ns i) (zm : among ms 0 ≡ false) (zn : among ns 0 ≡ false) where
  -- what one list finds, the other finds, and no better
  found : (s : Assignments) (a b : ℕ) → (least_loaded s ms a b ≡ 0 → ⊥) → NoMore s (least_loaded s ms a b) (least_loaded s ns a b)
  found s a b h =
      let o = least_outside s ms a b h in
      least_le s ns a b (least_loaded s ms a b) zn (sym (same (least_loaded s ms a b)) ∙ o.member) o.not_a o.not_b

module _ (ms ns : List ℕ) (same : (i : ℕ) → among ms i ≡ among ns i) (zm : among ms 0 ≡ false) (zn : among ns 0 ≡ false) where
  least_same : (s : Assignments) (a b : ℕ) → least_loaded s ms a b ≡ least_loaded s ns a b
  least_same s a b =
      let x = least_loaded s ms a b in
      let y = least_loaded s ns a b in
      let back = found ns ms (λ i. sym (same i)) zn zm s a b in
      by_eq x 0 (λ _ e. by_eq y 0 (λ _ f. e ∙ sym f) (λ _ n. absurd ((back n).found e)))
      (λ _ n. let p = found ms ns same zm zn s a b n in leads_same s x y (back p.found).leads p.leads)

  keep_alike : (g : ℕ) (s : Assignments) → keep_at ms g s ≡ keep_at ns g s
  unfolding keep_at kept_of_pair
  keep_alike g s = rw (same (id_in s (2 * g)), same (id_in s (2 * g + 1)))

  fill_alike : (k j : ℕ) (s : Assignments) → fill_position ms k j s ≡ fill_position ns k j s
  unfolding fill_position
  fill_alike k j s = rw (least_same s 0 (id_in s j))

  give_alike : (c k j : ℕ) (s : Assignments) → give_way ms c k j s ≡ give_way ns c k j s
  unfolding give_way
  give_alike c k j s = rw (least_same s (id_in s k) (id_in s j))

pub same_members : (n : ℕ) (ms ns : List ℕ) → Members ms → Members ns → ((i : ℕ) → among ms i ≡ among ns i) → (last : Assignments) → pairs n ms last ≡ pairs n ns last
unfolding pairs filled walked
same_members n ms ns om on same last =
    let zm = om.no_zero in
    let zn = on.no_zero in
    let l : length ms ≡ length ns =
    let p = no_longer ms ns om.distinct (λ z h. sym (same z) ∙ h) in
    let q = no_longer ns ms on.distinct (λ z h. same z ∙ h) in
    omega arith in
    let c = share n (length ns) in
    let f : (g : ℕ) (s : Assignments) → fill_at ms g s ≡ fill_at ns g s = λ g s.
    fill_alike ms ns same zm zn (2 * g + 1) (2 * g) (fill_position ms (2 * g) (2 * g + 1) s) ∙ ap (fill_position ns (2 * g + 1) (2 * g))
    (fill_alike ms ns same zm zn (2 * g) (2 * g + 1) s) in
    let w : (role g : ℕ) (s : Assignments) → walk_at ms c role g s ≡ walk_at ns c role g s = λ role g. give_alike ms ns same zm zn c (2 * g + role)
    (2 * g + (1 - role)) in
    rw (
      l,
      order_ext n (keep_at ms) (keep_at ns) (keep_alike ms ns same zm zn) last,
      order_ext n (fill_at ms) (fill_at ns) f (in_order n (keep_at ns) last),
      order_ext n (walk_at ms c 1) (walk_at ns c 1) (w 1) (in_order n (fill_at ns) (in_order n (keep_at ns) last)),
      order_ext n (walk_at ms c 0) (walk_at ns c 0) (w 0) (in_order n (walk_at ns c 1) (in_order n (fill_at ns) (in_order n (keep_at ns) last))),
    )
