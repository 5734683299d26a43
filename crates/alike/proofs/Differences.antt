-- Alike, by what the stores differ in first.
use mathlib.Core.Bool.{Bool, ◌&&◌}
use lib.Dec.{eqb}
use mathlib.Core.Path.{refl}
use mathlib.Core.Path.{◌≡◌, sym, ap, subst, ◌∙◌}
use mathlib.Core.List.{List}
use mathlib.Core.Bool.{true, false}
use Prim.Native.Nat.{ℕ, suc}
use borrow.Author.Tests.{eqb-true, eq-eqb, ne_eqb}
use Rattle.lists.specs.Tests.{◌and◌, all_below}
use Rattle.lists.proofs.Tests.{and_l, and_r, no_first, no_second, yes_first, both, eqb_self}
use Rattle.words.specs.Words.{words}
use Rattle.rules.specs.declared.settings.Settings.{Settings}
use Rattle.rules.specs.Limits.{buckets, max_id}
use Rattle.rules.specs.State.{State}
use Rattle.rules.specs.Alike.{same_flag, same_settings, alike}
use Rattle.layout.specs.Store.{decode}
use Rattle.lent.specs.Stores.{StoreOf}
use Rattle.lent.proofs.Stores.{settings_are, facts}
use Rattle.alike.specs.Alike.{Two, member_in, same_primary}
use Rattle.alike.proofs.Members.{members_are}

pub same_settings_true : (c d : Settings) → same_settings c d ≡ true → c ≡ d
unfolding same_settings
same_settings_true c d y =
    let a = and_l _ _ y in
    made (eqb-true _ _ (and_l _ _ (and_l _ _ a))) (eqb-true _ _ (and_r _ _ (and_l _ _ a))) (eqb-true _ _ (and_r _ _ a)) (eqb-true _ _ (and_r _ _ y))
  where
    made : {n s m l n' s' m' l' : ℕ} → n ≡ n' → s ≡ s' → m ≡ m' → l ≡ l'
        → ◌≡◌ {A = Settings} (record { places = n; size = s; entries = m; chunks = l }) (record { places = n'; size = s'; entries = m'; chunks = l' })
    made p q r t = cc

same_settings_self : (c : Settings) → same_settings c c ≡ true
unfolding same_settings
same_settings_self c = both _ _ (both _ _ (both _ _ (eqb_self c.places) (eqb_self c.size)) (eqb_self c.entries)) (eqb_self c.chunks)

pub other_settings : (s t : State) → same_settings s.settings t.settings ≡ false → alike s t ≡ false
unfolding alike
other_settings s t n = no_first _ _ (no_first _ _ (no_first _ _ n))

-- ---- two sound stores of the same settings
module _ (c : Settings) (one other : List ℕ) (v : Two c one other) where
  same_numbers : (decode (words one)).settings ≡ (decode (words other)).settings
  same_numbers = settings_are c one v.first ∙ sym (settings_are c other v.second)

  -- the members are walked by place, each store's for itself
  members : all_below (suc max_id) (λ i. same_flag ((decode (words one)).bricks.member i) ((decode (words other)).bricks.member i))
      ≡ (all_below c.places (member_in (decode (words one)) (decode (words other)))
      and all_below c.places (member_in (decode (words other)) (decode (words one))))
  members =
      members_are (decode (words one)) (decode (words other)) (facts c one v.first) (facts c other v.second)
      (ap (λ (x : Settings). x.places) same_numbers)
      ∙ ap (λ (x : Settings). all_below x.places (member_in (decode (words one)) (decode (words other)))
      and all_below x.places (member_in (decode (words other)) (decode (words one)))) (settings_are c one v.first)

  pub other_view : ((decode (words one)).view ≡ (decode (words other)).view → ⊥) → alike (decode (words one)) (decode (words other)) ≡ false
  unfolding alike
  other_view n = no_first _ _ (no_first _ _ (no_second _ _ (ne_eqb _ _ n)))

  pub other_members : (all_below c.places (member_in (decode (words one)) (decode (words other)))
      and all_below c.places (member_in (decode (words other)) (decode (words one)))) ≡ false
      → alike (decode (words one)) (decode (words other)) ≡ false
  unfolding alike
  other_members n = no_first _ _ (no_second _ _ (members ∙ n))

  pub same_else : (decode (words one)).view ≡ (decode (words other)).view
      → all_below c.places (member_in (decode (words one)) (decode (words other))) ≡ true
      → all_below c.places (member_in (decode (words other)) (decode (words one))) ≡ true
      → all_below (buckets c) (same_primary (decode (words one)) (decode (words other))) ≡ alike (decode (words one)) (decode (words other))
  unfolding alike
  same_else w l r =
      let y : same_settings (decode (words one)).settings (decode (words other)).settings ≡ true =
      subst (λ (x : Settings). same_settings (decode (words one)).settings x ≡ true) same_numbers (same_settings_self _) in
      sym (yes_first _ _ (both _ _ (both _ _ y (eq-eqb _ _ w)) (members ∙ both _ _ l r))
      ∙ ap (λ (x : Settings). all_below (buckets x) (same_primary (decode (words one)) (decode (words other)))) (settings_are c one v.first))

-- with equal settings, either's are the other's
pub two_stores : {c d : Settings} (one other : List ℕ) → StoreOf c one → StoreOf d other → same_settings c d ≡ true → Two c one other
two_stores {c} {d} one other v w y = record { first = v; second = subst (λ (x : Settings). StoreOf x other) (sym (same_settings_true c d y)) w }

-- the derived equality compares the same four numbers
pub derived_settings : (c d : Settings) → (eqb c.places d.places && (eqb c.size d.size && (eqb c.entries d.entries && eqb c.chunks d.chunks))) ≡ same_settings c d
unfolding same_settings ◌and◌
derived_settings c d = turned (eqb c.places d.places) (eqb c.size d.size) (eqb c.entries d.entries) (eqb c.chunks d.chunks)
  where
    turned : (a b e f : Bool) → (a && (b && (e && f))) ≡ (((a && b) && e) && f)
    turned true true e f = refl
    turned true false e f = refl
    turned false b e f = refl
