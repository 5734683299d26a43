-- Where nothing is ever lost and every accepted crash finds each place an up member, two present bricks have each key in use saved, and at most one brick is no
-- member: so a member has it. Every accepted event keeps that, and format begins it. That a crash finds every bucket ready is not needed.
use mathlib.Core.Path.{◌≡◌, refl, sym, ◌∙◌}
use mathlib.Core.Bool.{true, false}
use mathlib.Core.Logic.{inl, inr}
use Prim.Native.Nat.{ℕ, ◌<◌}
use native.Mathlib.Omega.{arith}
use borrow.Author.Tests.{eqb-true, ltb-true, lt-ltb}
use Rattle.lists.specs.Tests.{◌or◌}
use Rattle.lists.specs.Columns.{upd}
use Rattle.lists.proofs.Tests.{by, by_eq, either, clash, and_l, and_r, or_cases, all_at}
use Rattle.lists.proofs.Columns.{unflag, still_flagged}
use Rattle.rules.specs.declared.settings.Settings.{Settings}
use Rattle.rules.specs.Limits.{buckets}
use Rattle.rules.specs.Event.{Event}
use Rattle.rules.specs.State.{State, Bricks, set_bricks}
use Rattle.rules.specs.Format.{first_id, format}
use Rattle.rules.specs.Derived.{up_member, bucket_at, is_empty, item, nothing_pending}
use Rattle.rules.specs.Writes.{put_effect, nothing_to_copy, copy_effect, savelog_effect}
use Rattle.rules.specs.Maps.{map_effect, send_effect, is_taken, deliver_effect, drop_effect, savemap_effect, item_goes, learn_effect, reset_effect}
use Rattle.rules.specs.Membership.{crash_effect, rise_effect}
use Rattle.rules.specs.Views.{view_effect, fetch_effect, ready_effect}
use Rattle.rules.specs.Upkeep.{mend_effect, collect_effect}
use Rattle.rules.specs.Whole.{all_up_and_ready}
use Rattle.rules.specs.Step.{rule}
use Rattle.rules.proofs.Step.{Yes}
use Rattle.rules.proofs.Sound.{Sound}
use Rattle.history.specs.Claim.{History, IsCrash, IsLose}
use Rattle.history.proofs.Sound.Format.{in_first}
use Rattle.history.proofs.Facts.{brick_here}
use Rattle.history.proofs.AgeingInvariant.{AgeingInvariant}
use Rattle.history.proofs.WantInvariant.{KeptBy, KeptTwice, TwiceBy, Uses, Full, all_full, NoneLost, TwoSavedInvariant}
use Rattle.history.proofs.Want.Uses.{uses_map, uses_kept, format_uses}
use Rattle.history.proofs.Want.Saved.{kept_on, twice_more, put_saves, copy_kept, savelog_saves, crash_saves, mend_saves, collect_left, map_twice}
use Rattle.history.proofs.Want.NothingPending.{Follows, uses_mapped, mapped_used}

-- ---- of two bricks, one is a member
pub member_keeps : (s : State) → NoneLost s → (k : ℕ) → TwiceBy s k → KeptBy s k
member_keeps s n k f =
    elim (f 0) [
      | inl e ↦ inl e
      | inr t ↦ by (s.bricks.member t.who) (λ y. inr (record { who = t.who; is_among = y; saved = t.saved })) (λ out.
          elim (f t.who) [
            | inl e ↦ inl e
            | inr u ↦
                let other = unflag s.bricks.present t.who u.who u.is_among in
                by (s.bricks.member u.who) (λ y. inr (record { who = u.who; is_among = y; saved = u.saved })) (λ out'.
                absurd (other.1 (n.one_out u.who t.who other.0 (unflag s.bricks.present 0 t.who t.is_among).0 out' out)))
          ])
    ]

-- ---- the bricks
module _ (s : State) (z : Sound s) (n : NoneLost s) where
  -- where every place holds a member, every present brick is one
  placed : Full s.settings.places s.ids s.bricks.member → (i : ℕ) → s.bricks.present i ≡ true → s.bricks.member i ≡ true
  placed full i y = let t = z.bricks.somewhere i y in rw t.2 at (full t.0 t.1)

  crash_bricks : (i : ℕ) → all_up_and_ready s ≡ true → NoneLost (rule s (Event.crash i)).after
  unfolding rule crash_effect all_up_and_ready
  crash_bricks i was =
      let full = all_full s (and_l _ _ was) in
      let crashed : (j : ℕ) → s.bricks.present j ≡ true → upd s.bricks.member (s.ids i) false j ≡ false → j ≡ s.ids i
      = λ j y out. by_eq j (s.ids i) (λ _ e. e) (λ _ d. clash out (still_flagged s.bricks.member (s.ids i) j d (placed full j y))) in
      record { no_empty = n.no_empty; is_present = n.is_present; one_out = λ a b ha hb oa ob. crashed a ha oa ∙ sym (crashed b hb ob) }

  view_bricks : NoneLost (rule s Event.view).after
  unfolding rule view_effect
  view_bricks =
      let out : (i : ℕ) → s.bricks.up i ≡ false → s.bricks.member i ≡ false
      = λ i d. by (s.bricks.member i) (λ y. clash d (z.bricks.member_up i y)) (λ m. m) in
      record { no_empty = n.no_empty; is_present = n.is_present; one_out = λ a b ha hb oa ob. n.one_out a b ha hb (out a oa) (out b ob) }

  -- no place is empty
  no_join : (i : ℕ) → Yes s (Event.join i) → ⊥
  unfolding rule
  no_join i y =
      let l : i < s.settings.places = search ltb-true in
      let e : s.ids i ≡ 0 = eqb-true _ _ (search) in
      omega (arith, n.no_empty i l, e)

  bricks_kept : (e : Event) → Yes s e → (IsLose e → ⊥) → (IsCrash e → all_up_and_ready s ≡ true) → NoneLost (rule s e).after
  unfolding rule put_effect copy_effect savelog_effect map_effect send_effect deliver_effect drop_effect savemap_effect item_goes learn_effect reset_effect rise_effect fetch_effect ready_effect mend_effect collect_effect
  bricks_kept (Event.put p i b d) y none f = n
  bricks_kept (Event.copy k) y none f = either (λ (c : Bricks). NoneLost (set_bricks s c)) (nothing_to_copy s k) (λ _. n) (λ _. n)
  bricks_kept (Event.savelog i) y none f = n
  bricks_kept (Event.map p b) y none f = either (λ (t : State). NoneLost t) (bucket_at s b).ready (λ _. n) (λ _. n)
  bricks_kept (Event.send b) y none f = n
  bricks_kept (Event.deliver m) y none f = either (λ (t : State). NoneLost t) (is_taken s m) (λ _. n) (λ _. n)
  bricks_kept (Event.drop m) y none f = n
  bricks_kept (Event.savemap i) y none f = n
  bricks_kept (Event.done p b) y none f = n
  bricks_kept (Event.get p b) y none f = n
  bricks_kept (Event.abandon p b) y none f = n
  bricks_kept (Event.learn p) y none f = n
  bricks_kept (Event.reset p) y none f = n
  bricks_kept (Event.crash i) y none f = crash_bricks i (f (i, refl))
  bricks_kept (Event.lose i) y none f = absurd (none (i, refl))
  bricks_kept (Event.rise i) y none f = n
  bricks_kept (Event.join i) y none f = absurd (no_join i y)
  bricks_kept Event.view y none f = view_bricks
  bricks_kept (Event.fetch g) y none f = n
  bricks_kept (Event.ready g) y none f = n
  bricks_kept (Event.mend i) y none f = n
  bricks_kept (Event.collect i) y none f = n
  bricks_kept Event.unknown y none f = n

-- ---- the keys in use
module _ (s : State) (h : History) (v : AgeingInvariant s h) (z : Sound s) (d : TwoSavedInvariant s) where
  -- what two bricks have saved they have after the event
  on : (e : Event) → Yes s e → ((k : ℕ) → TwiceBy s k → TwiceBy (rule s e).after k) → Uses (TwiceBy (rule s e).after) (rule s e).after
  on e y f = uses_map f (uses_kept (TwiceBy s) s d.uses h v z e y (λ p b q. twice_more (item s p b) (brick_here s z) (map_twice s e y p b q)))

  -- collect drops nothing in use: it asks that nothing is pending and that every brick is a member
  collect_uses : (i : ℕ) → Yes s (Event.collect i) → Uses (TwiceBy (rule s (Event.collect i)).after) s
  unfolding rule collect_effect
  collect_uses i y =
      let nothing_pending_in : (g : ℕ) → g < buckets s.settings → nothing_pending (s.bucket g) ≡ true = all_at _ _ (search) in
      let none_down : (p : ℕ) → p < s.settings.places → (is_empty s p or up_member s (s.ids p)) ≡ true = all_at _ _ (search) in
      let full : Full s.settings.places s.ids s.bricks.member
      = λ p l. elim (or_cases (is_empty s p) (up_member s (s.ids p)) (none_down p l)) [
        | inl e ↦ let none : s.ids p ≡ 0 = eqb-true _ _ e in absurd (omega (arith, d.bricks.no_empty p l))
        | inr u ↦ and_r _ _ u
      ] in
      let follows : (g : ℕ) → g < buckets s.settings → (s.bucket g).ready ≡ true → Follows s g (s.bucket g)
      = λ g l _. let pair = (z.buckets_ok g l).pair in inl (placed s z d.bricks full _ (d.bricks.is_present _ pair.one_first pair.one_born)) in
      uses_mapped s h v nothing_pending_in follows (TwiceBy s) d.uses (TwiceBy (collect_effect s (s.ids i)))
      (λ g l b x. collect_left s (upd s.bricks.present x false) (s.ids i) g l b (mapped_used s h v nothing_pending_in follows (TwiceBy s) d.uses z (λ _. inl refl) g l b x))

  uses_on : (e : Event) → Yes s e → (IsLose e → ⊥) → (IsCrash e → all_up_and_ready s ≡ true) → Uses (TwiceBy (rule s e).after) (rule s e).after
  unfolding rule put_effect savelog_effect map_effect send_effect deliver_effect drop_effect savemap_effect item_goes learn_effect reset_effect crash_effect rise_effect view_effect fetch_effect ready_effect mend_effect collect_effect
  uses_on (Event.put p i b c) y none f = on (Event.put p i b c) y (λ k t x. kept_on (put_saves s p i b c) k (t x))
  uses_on (Event.copy j) y none f = on (Event.copy j) y (λ k t. copy_kept s (λ c. KeptTwice c.present c.log k) j (λ log more x. kept_on more k (t x)))
  uses_on (Event.savelog i) y none f = on (Event.savelog i) y (λ k t x. kept_on (savelog_saves s i) k (t x))
  uses_on (Event.map p b) y none f = on (Event.map p b) y (λ k t. either (λ (c : State). TwiceBy c k) (bucket_at s b).ready (λ _. t) (λ _. t))
  uses_on (Event.send b) y none f = on (Event.send b) y (λ k t. t)
  uses_on (Event.deliver m) y none f = on (Event.deliver m) y (λ k t. either (λ (c : State). TwiceBy c k) (is_taken s m) (λ _. t) (λ _. t))
  uses_on (Event.drop m) y none f = on (Event.drop m) y (λ k t. t)
  uses_on (Event.savemap i) y none f = on (Event.savemap i) y (λ k t. t)
  uses_on (Event.done p b) y none f = on (Event.done p b) y (λ k t. t)
  uses_on (Event.get p b) y none f = on (Event.get p b) y (λ k t. t)
  uses_on (Event.abandon p b) y none f = on (Event.abandon p b) y (λ k t. t)
  uses_on (Event.learn p) y none f = on (Event.learn p) y (λ k t. t)
  uses_on (Event.reset p) y none f = on (Event.reset p) y (λ k t. t)
  uses_on (Event.crash i) y none f = on (Event.crash i) y (λ k t x. kept_on (crash_saves s i) k (t x))
  uses_on (Event.lose i) y none f = absurd (none (i, refl))
  uses_on (Event.rise i) y none f = on (Event.rise i) y (λ k t. t)
  uses_on (Event.join i) y none f = absurd (no_join s z d.bricks i y)
  uses_on Event.view y none f = on Event.view y (λ k t. t)
  uses_on (Event.fetch g) y none f = on (Event.fetch g) y (λ k t. t)
  uses_on (Event.ready g) y none f = on (Event.ready g) y (λ k t. t)
  uses_on (Event.mend i) y none f = on (Event.mend i) y (λ k t x. kept_on (mend_saves s i) k (t x))
  uses_on (Event.collect i) y none f = collect_uses i y
  uses_on Event.unknown y none f = on Event.unknown y (λ k t. t)

  pub two_saved_kept : (e : Event) → Yes s e → (IsLose e → ⊥) → (IsCrash e → all_up_and_ready s ≡ true) → TwoSavedInvariant (rule s e).after
  two_saved_kept e y none f = record { bricks = bricks_kept s z d.bricks e y none f; uses = uses_on e y none f }

-- ---- format
pub format_two_saved : (c : Settings) → TwoSavedInvariant (format c)
unfolding format
format_two_saved c = record {
  bricks = record { no_empty = first; is_present = in_first c.places; one_out = λ i j hi hj oi oj. clash oi hi };
  uses = format_uses c (TwiceBy (format c)) (λ x. inl refl);
}
  where
    first : (p : ℕ) → p < c.places → 0 < first_id c.places p
    first p l = unfold first_id in rw (lt-ltb _ _ l) (omega arith)
