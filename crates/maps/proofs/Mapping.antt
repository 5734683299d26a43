-- map: what it asks, and what it does.
use mathlib.Core.Path.{◌≡◌, refl, sym, ap, ◌∙◌}
use mathlib.Core.List.{[], ◌∷◌}
use mathlib.Core.Bool.{Bool, true, false, not, cond}
use Prim.Native.Nat.{ℕ, ◌<◌}
use native.Mathlib.Omega.{arith}
use lib.Dec.{ltb}
use lib.ListN.{length}
use borrow.Author.Tests.{ltb-true}
use Rattle.lists.specs.Tests.{◌and◌, ◌or◌}
use Rattle.rules.specs.Limits.{proxies, max_waiting}
use Rattle.rules.specs.Entries.{takes}
use Rattle.rules.specs.State.{State}
use Rattle.rules.specs.Maps.{map_asks, map_effect}
use Rattle.rules.specs.Derived.{up_member, bucket_no, bucket_at, item}
use Rattle.rules.specs.Question.{◌asks◌, first_no}
use Rattle.rules.proofs.Questions.{first_yes, none_asked, all_yes, front_none}
use Rattle.layout.specs.Contents.{Agreed, blank_brick}
use Rattle.layout.specs.Store.{brick_in}
use Rattle.mappings.specs.Asks.{access_asks}
use Rattle.mappings.specs.Copies.{with_entry, with_waiting}
use Rattle.mappings.proofs.Asking.{access_yes}
use Rattle.mappings.proofs.Buckets.{InBucket, takes_is, member_stands}
use Rattle.maps.specs.Asks.{room_asks, Mappable}

-- ---- where every answer is yes
module _ (s : State) (p b : ℕ) (y : first_no (map_asks s p b) ≡ 0) where
  asked : first_no (access_asks s p b) ≡ 0
  asked = front_none (access_asks s p b) _ y

  pub map_proxy : p < proxies
  map_proxy = (access_yes s p b asked).block.proxy

  pub mappable : Mappable s b
  unfolding ◌and◌
  mappable =
      let q = (all_yes (map_asks s p b) refl y).1.1.1.1.1.1.1.1 in
      record { up = (access_yes s p b asked).primary; room = first_yes 10 _ q.0 ∙ first_yes 10 [] q.1.0 ∙ none_asked }

-- ---- room: of the primary's copy where the bucket is ready, else of its append buffer
ready_room : (r t w : Bool) → r ≡ true → first_no ((10 asks not r or t) ∷ (10 asks r or w) ∷ []) ≡ cond t 0 10
unfolding first_no ◌or◌
ready_room true true w e = refl
ready_room true false w e = refl
ready_room false t w e = absurd (let z : ◌≡◌ {A = ℕ} 0 1 = cc in omega arith)

waiting_room : (r t w : Bool) → r ≡ false → first_no ((10 asks not r or t) ∷ (10 asks r or w) ∷ []) ≡ cond w 0 10
unfolding first_no ◌or◌
waiting_room false t true e = refl
waiting_room false t false e = refl
waiting_room true t w e = absurd (let z : ◌≡◌ {A = ℕ} 0 1 = cc in omega arith)

module _ (s : State) (most b g : ℕ) (a : Agreed) (k : InBucket s most b g a) where
  ready_is : {x : Bool} → a.ready ≡ x → (bucket_at s b).ready ≡ x
  ready_is r = sym (ap (λ (i : Agreed). i.ready) k.agreed) ∙ r

  pub room_ready : a.ready ≡ true → (x : Bool) → x ≡ takes most ((s.bucket g).memory a.primary) b → first_no (room_asks s b) ≡ cond x 0 10
  room_ready r x q = ready_room (bucket_at s b).ready _ _ (ready_is r) ∙ ap (λ (t : Bool). cond t 0 10) (sym (q ∙ takes_is s most b g a k (λ x. x.primary)))

  pub room_waiting : a.ready ≡ false → (x : Bool) → x ≡ ltb (length (s.bricks.buffer a.primary)) max_waiting
      → first_no (room_asks s b) ≡ cond x 0 10
  room_waiting r x q =
      waiting_room (bucket_at s b).ready _ _ (ready_is r)
      ∙ ap (λ (t : Bool). cond t 0 10) (sym (q ∙ ap (λ (i : Agreed). ltb (length (s.bricks.buffer i.primary)) max_waiting) k.agreed))

-- ---- the effect, by whether the bucket is ready
abbrev either_effect : State → ℕ → ℕ → Bool → State
either_effect s p b ready =
    cond ready (with_entry s (bucket_no s b) (bucket_at s b).primary b (item s p b)) (with_waiting s (bucket_at s b).primary b (item s p b))

effect_is : (s : State) (p b : ℕ) → map_effect s p b ≡ either_effect s p b (bucket_at s b).ready
unfolding map_effect with_entry with_waiting
effect_is s p b = refl

zero_or_ten : (x : Bool) → ◌≡◌ {A = ℕ} 0 (cond x 0 10) → x ≡ true
zero_or_ten true q = refl
zero_or_ten false q = absurd (omega arith)

module _ (s : State) (b : ℕ) (m : Mappable s b) (most g : ℕ) (a : Agreed) (k : InBucket s most b g a) where
  -- the primary stands somewhere
  pub primary_stands : brick_in s a.primary ≡ blank_brick → ⊥
  primary_stands = member_stands s a.primary (ap (λ (i : Agreed). up_member s i.primary) k.agreed ∙ m.up)

  module _ (id : ℕ) (ei : id ≡ a.primary) where
    primary_is : id ≡ (bucket_at s b).primary
    primary_is = ei ∙ ap (λ (i : Agreed). i.primary) k.agreed

    pub copy_takes : a.ready ≡ true → takes most ((s.bucket g).memory id) b ≡ true
    copy_takes r =
        ap (λ (i : ℕ). takes most ((s.bucket g).memory i) b) ei ∙ zero_or_ten _ (sym m.room ∙ room_ready s most b g a k r _ refl)

    pub buffer_takes : a.ready ≡ false → length (s.bricks.buffer id) < max_waiting
    buffer_takes r =
        ltb-true _ max_waiting (ap (λ (i : ℕ). ltb (length (s.bricks.buffer i)) max_waiting) ei
        ∙ zero_or_ten _ (sym m.room ∙ room_waiting s most b g a k r _ refl))

    module _ (p key : ℕ) (ek : key ≡ item s p b) where
      decided : {x : Bool} → a.ready ≡ x → either_effect s p b x ≡ map_effect s p b
      decided r = sym (effect_is s p b ∙ ap (either_effect s p b) (ready_is s most b g a k r))

      pub mapped_entry : a.ready ≡ true → with_entry s g id b key ≡ map_effect s p b
      mapped_entry r =
          ap (λ (i : ℕ). with_entry s i id b key) k.number ∙ ap (λ (i : ℕ). with_entry s (bucket_no s b) i b key) primary_is
          ∙ ap (with_entry s (bucket_no s b) (bucket_at s b).primary b) ek ∙ decided r

      pub mapped_waiting : a.ready ≡ false → with_waiting s id b key ≡ map_effect s p b
      mapped_waiting r =
          ap (λ (i : ℕ). with_waiting s i b key) primary_is ∙ ap (with_waiting s (bucket_at s b).primary b) ek ∙ decided r
