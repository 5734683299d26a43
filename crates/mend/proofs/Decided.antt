-- What is decided of a key while the log is mended is what was decided before: the store on the way serves as well as the one that it began with.
use mathlib.Core.Path.{◌≡◌, refl, sym, ap, ◌∙◌}
use mathlib.Core.Logic.{inl, inr}
use mathlib.Core.List.{List, [], ◌∷◌, Memᴰ}
use mathlib.Core.Bool.{Bool, true, false}
use Prim.Native.Nat.{ℕ, ◌<◌}
use lib.Dec.{ltb}
use borrow.Author.Tests.{eqb-true, lt-ltb, ltb-true}
use Rattle.lists.specs.Tests.{◌and◌}
use Rattle.lists.proofs.Tests.{by, by_eq, impossible, clash, and_l, and_r, both, or_l, or_cases, no_first, no_second}
use Rattle.lists.proofs.Columns.{upd_same, upd_other}
use Rattle.rules.specs.Numbers.{home_of}
use Rattle.rules.specs.Entries.{Entry}
use Rattle.rules.specs.Chunks.{Chunk, new_chunk, held, bytes_in, append}
use Rattle.rules.specs.State.{State}
use Rattle.rules.specs.Derived.{members_from, first_holder, holder}
use Rattle.rules.specs.Upkeep.{of_first_two, mend_key, mend_keys}
use Rattle.rules.proofs.Derived.{ids_in, members_from_in, first_holder_held, first_holder_found}
use Rattle.lent.specs.Places.{with_chunks}
use Rattle.mend.specs.Keys.{wants}
use Rattle.mend.proofs.Mending.{key_none, key_saved, key_added, key_held, Sofar}

-- one of the first two is one of them
first_two_in : (id : ℕ) (l : List ℕ) → of_first_two id l ≡ true → Memᴰ id l
unfolding of_first_two
first_two_in id [] y = impossible y
first_two_in id (one ∷ []) y = Memᴰ.head (sym (eqb-true one id y))
first_two_in id (one ∷ two ∷ rest) y = elim (or_cases _ _ y) [
  | inl z ↦ Memᴰ.head (sym (eqb-true one id z))
  | inr z ↦ Memᴰ.tail (Memᴰ.head (sym (eqb-true two id z)))
]

module _ (s : State) (id k : ℕ) where
  abbrev turn : Bool
  turn = of_first_two id (members_from s (home_of k))

  pub wants_not : turn ≡ false → wants s id k ≡ false
  unfolding wants
  wants_not n = no_first _ _ n

  pub wants_none : holder s k ≡ 0 → wants s id k ≡ false
  unfolding wants
  wants_none e = rw e (no_second turn (ltb 0 0) refl)

  pub wants_some : turn ≡ true → 0 < holder s k → wants s id k ≡ true
  unfolding wants
  wants_some y h = both _ _ y (lt-ltb 0 (holder s k) h)

  -- an up member that holds the chunk is enough of a holder
  pub wants_held : turn ≡ true → s.bricks.up id ≡ true → held (s.bricks.log id) k ≡ true → wants s id k ≡ true
  wants_held y u h = wants_some y found
    where
      found : 0 < holder s k
      found = unfold holder in first_holder_found s.bricks k id (members_from s (home_of k)) (λ j m. (ids_in _ _ j (members_from_in s (home_of k) j m)).0)
          (first_two_in id (members_from s (home_of k)) y) u h

-- ---- the log on the way
module _ (s : State) (id : ℕ) (u : s.bricks.up id ≡ true) (l : List Chunk) (seen : ℕ → Bool) (o : Sofar s id l seen) where
  abbrev now : State
  now = with_chunks s id l

  module _ (k : ℕ) where
    was_not : held l k ≡ false → held (s.bricks.log id) k ≡ false
    was_not n = by (held (s.bricks.log id) k) (λ y. clash n (o.holds k ∙ or_l _ _ y)) (λ z. z)

    held_now : (i : ℕ) → held l k ≡ false → held (now.bricks.log i) k ≡ held (s.bricks.log i) k
    held_now i n =
        by_eq i id
        (λ _ e. ap (λ (j : ℕ). held (now.bricks.log j) k) e ∙ ap (λ (m : List Chunk). held m k) (upd_same s.bricks.log id l) ∙ n
        ∙ sym (ap (λ (j : ℕ). held (s.bricks.log j) k) e ∙ was_not n))
        (λ _ e. ap (λ (m : List Chunk). held m k) (upd_other s.bricks.log id i l e))

    first_holder_now : (ids : List ℕ) → held l k ≡ false → first_holder now.bricks k ids ≡ first_holder s.bricks k ids
    unfolding first_holder
    first_holder_now [] n = refl
    first_holder_now (i ∷ ids) n = rw (held_now i n, first_holder_now ids n)

    holder_now : held l k ≡ false → holder now k ≡ holder s k
    unfolding holder members_from
    holder_now n = first_holder_now (members_from s (home_of k)) n

    -- the chunk comes from another log
    bytes_now : held l k ≡ false → 0 < holder s k
        → bytes_in (now.bricks.log (holder now k)) k ≡ bytes_in (s.bricks.log (holder s k)) k
    bytes_now n h =
        let it : held (s.bricks.log (holder s k)) k ≡ true = unfold holder in first_holder_held s.bricks k (members_from s (home_of k)) h in
        let other : holder s k ≡ id → ⊥ = λ e. clash (was_not n) (ap (λ (j : ℕ). held (s.bricks.log j) k) (sym e) ∙ it) in
        ap (λ (j : ℕ). bytes_in (now.bricks.log j) k) (holder_now n)
        ∙ ap (λ (m : List Chunk). bytes_in m k) (upd_other s.bricks.log id (holder s k) l other)

    same_turn : turn now id k ≡ turn s id k
    unfolding members_from
    same_turn = refl

    wants_now : wants now id k ≡ wants s id k
    wants_now =
        by (turn s id k)
        (λ y. by (held l k)
        (λ h. wants_held now id k (same_turn ∙ y) u (ap (λ (m : List Chunk). held m k) (upd_same s.bricks.log id l) ∙ h) ∙ sym (once h y))
        (λ n. unfold wants members_from in ap (λ (i : ℕ). of_first_two id (members_from s (home_of k)) and ltb 0 i) (holder_now n)))
        (λ z. wants_not now id k (same_turn ∙ z) ∙ sym (wants_not s id k z))
      where
        once : held l k ≡ true → turn s id k ≡ true → wants s id k ≡ true
        once h y = elim (or_cases _ _ (sym (o.holds k) ∙ h)) [ inl z ↦ wants_held s id k y u z | inr z ↦ and_l _ _ z ]

    some : wants s id k ≡ true → 0 < holder s k
    some w = ltb-true 0 (holder s k) (unfold wants in and_r _ _ w)

    -- the log may have grown since
    pub key_now : (m : List Chunk) → (held l k ≡ true → held m k ≡ true) → mend_key now id m k ≡ mend_key s id m k
    key_now m grown =
        by (wants s id k)
        (λ w. by (held m k)
        (λ h. key_saved now id m k (wants_now ∙ w) h ∙ sym (key_saved s id m k w h))
        (λ n. key_added now id m k (wants_now ∙ w) n
        ∙ ap (λ (b : List ℕ). append m (new_chunk k true b)) (bytes_now (by (held l k) (λ y. clash n (grown y)) (λ z. z)) (some w))
        ∙ sym (key_added s id m k w n)))
        (λ w. key_none now id m k (wants_now ∙ w) ∙ sym (key_none s id m k w))

  pub keys_now : (es : List Entry) (m : List Chunk) → ((q : ℕ) → held l q ≡ true → held m q ≡ true) → mend_keys now id m es ≡ mend_keys s id m es
  unfolding mend_keys
  keys_now [] m grown = refl
  keys_now (e ∷ es) m grown =
      ap (λ (n : List Chunk). mend_keys now id n es) (key_now e.key m (grown e.key))
      ∙ keys_now es (mend_key s id m e.key) (λ q y. key_held s id m e.key q ∙ or_l _ _ (grown q y))
