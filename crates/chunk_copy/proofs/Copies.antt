-- copy: what it finds, its questions, and what it leaves.
use Rattle.std.proofs.Common.{Option, Some, None}
use Rattle.std.specs.Option.{MatchOption}
use Rattle.std.specs.Bool.{then_some}
use mathlib.Core.Path.{◌≡◌, sym, ap, subst, ◌∙◌}
use mathlib.Core.List.{List}
use mathlib.Core.Bool.{Bool, true, false, not}
use Prim.Native.Nat.{ℕ, ◌^◌, ◌<◌}
use native.Mathlib.Omega.{arith}
use lib.Dec.{eqb, ltb}
use lib.ListN.{length, drop}
use borrow.Author.Tests.{eq-eqb, ne_eqb, lt-ltb, le-ltb, le-leb, ltb-true, not-true, not-false}
use Rattle.lists.specs.Tests.{any}
use Rattle.lists.proofs.Tests.{and_l, both, clash, no_first, or_l, or_r, or_no}
use Rattle.words.specs.Words.{words}
use Rattle.rules.specs.declared.settings.Settings.{Settings}
use Rattle.rules.specs.Limits.{max_id}
use Rattle.rules.specs.Numbers.{home_of}
use Rattle.rules.specs.Chunks.{new_chunk, append, held, bytes_in}
use Rattle.rules.specs.State.{State}
use Rattle.rules.specs.Derived.{up_member}
use Rattle.rules.specs.Question.{first_no, AllYes}
use Rattle.rules.specs.Writes.{target, nothing_to_copy, copy_asks, copy_effect}
use Rattle.rules.proofs.Questions.{first_yes, first_stop, none_asked}
use Rattle.chunk_log.specs.Answers.{FoundAt}
use Rattle.layout.specs.Contents.{Brick, blank_brick}
use Rattle.layout.specs.Store.{brick_in, decode, render}
use Rattle.lent.specs.Stores.{StoreOf}
use Rattle.lent.specs.Places.{Stands, with_chunks}
use Rattle.lent.proofs.Stores.{settings_are}
use Rattle.holders.specs.Members.{Chosen}
use Rattle.transfer.specs.Brings.{Brings, brought}
use Rattle.chunk_copy.specs.Copies.{Lacking, CopiedTo, has_room}

-- ---- what is found
module _ (c : Settings) (s : State) (key : ℕ) where
  pub no_target : target s key ≡ 0 → nothing_to_copy s key ≡ true
  no_target e = or_l _ _ (eq-eqb (target s key) 0 e)

  pub target_holds : (place : ℕ) → Stands c s (target s key) place → held (s.bricks.log (s.ids place)) key ≡ true → nothing_to_copy s key ≡ true
  target_holds place at y = or_r (eqb (target s key) 0) _ (rw at.here at y)

  pub target_lacks : (place : ℕ) → Lacking c s (target s key) key place → nothing_to_copy s key ≡ false
  target_lacks place l =
      let some = l.at.some in
      or_no (eqb (target s key) 0) _ (ne_eqb (target s key) 0 (λ z. omega arith)) ∙ l.lacks

  -- by cases of the target's place, and of the place that a copy goes to
  pub by_target : (r : Option ℕ) (P : Type 0) (Q : ℕ → Type 0) {R : Type 0} → Chosen c s (target s key) r → MatchOption r P Q
      → ((place : ℕ) → Stands c s (target s key) place → Q place → R) → (target s key ≡ 0 → P → R) → R
  by_target None P Q h m at_place none = none h m
  by_target (Some place) P Q h m at_place none = at_place place h m

  pub by_copy : (r : Option ℕ) (P : Type 0) (Q : ℕ → Type 0) {R : Type 0} → CopiedTo c s key r → MatchOption r P Q
      → ((place : ℕ) → Lacking c s (target s key) key place → Q place → R) → (nothing_to_copy s key ≡ true → P → R) → R
  by_copy None P Q h m at_place none = none h m
  by_copy (Some place) P Q h m at_place none = at_place place h m

  -- the target is kept if it lacks the chunk
  pub copy_found : (place : ℕ) → Stands c s (target s key) place → (lacks : Bool) (r : Option ℕ) → lacks ≡ not (held (s.bricks.log (s.ids place)) key)
      → r ≡ then_some lacks place → CopiedTo c s key r
  copy_found place at true r e f =
      subst (CopiedTo c s key) (sym f) (record { at = at; lacks = rw at.here at (not-true (held (s.bricks.log (s.ids place)) key) (sym e)) })
  copy_found place at false r e f = subst (CopiedTo c s key) (sym f) (target_holds place at (not-false (held (s.bricks.log (s.ids place)) key) (sym e)))

  pub copy_none : (r : Option ℕ) → target s key ≡ 0 → r ≡ None → CopiedTo c s key r
  copy_none r z f = subst (CopiedTo c s key) (sym f) (no_target z)

  -- a brick that stands nowhere holds nothing, and is not up
  pub none_held : (id : ℕ) → brick_in s id ≡ blank_brick → held (s.bricks.log id) key ≡ false
  unfolding held any
  none_held id e = ap (λ (b : Brick). held b.log key) e

  pub none_up : {A : Type 0} (id : ℕ) → brick_in s id ≡ blank_brick → up_member s id ≡ true → A
  none_up id e y = clash (ap (λ (b : Brick). b.status.up) e) (and_l _ _ y)

-- ---- the questions, one after the other, as the code has read the home id
module _ (s : State) (key home : ℕ) (e : home ≡ home_of key) where
  abbrev asked : ℕ
  asked = first_no (copy_asks s key)

  pub no_home : home ≡ 0 → 3 ≡ asked
  no_home z = sym (first_stop 3 _ (no_first (ltb 0 (home_of key)) _ (le-ltb 0 (home_of key) (omega arith))))

  module _ (small : key < 2 ^ 64) (some : home ≡ 0 → ⊥) where
    past_home : asked ≡ first_no (drop 1 (copy_asks s key))
    past_home = first_yes 3 _ (both _ _ (lt-ltb 0 (home_of key) (omega arith)) (le-leb (home_of key) max_id (omega arith)))

    pub home_down : up_member s home ≡ false → 6 ≡ asked
    home_down n = sym (past_home ∙ first_stop 6 _ (rw e at n))

    module _ (up : up_member s home ≡ true) where
      past_member : asked ≡ first_no (drop 2 (copy_asks s key))
      past_member = past_home ∙ first_yes 6 _ (rw e at up)

      pub no_room : has_room s key ≡ false → 10 ≡ asked
      no_room n = sym (past_member ∙ first_stop 10 _ n)

      module _ (room : has_room s key ≡ true) where
        pub home_has : held (s.bricks.log home) key ≡ true → 0 ≡ asked
        home_has y = sym (past_member ∙ first_yes 10 _ room ∙ first_yes 11 _ (rw e at y) ∙ none_asked)

        pub home_lacks : held (s.bricks.log home) key ≡ false → 11 ≡ asked
        home_lacks n = sym (past_member ∙ first_yes 10 _ room ∙ first_stop 11 _ (rw e at n))

module _ (c : Settings) (bs : List ℕ) (so : StoreOf c bs) (key : ℕ) where
  abbrev s : State
  s = decode (words bs)

  chunks_are : s.settings.chunks ≡ c.chunks
  chunks_are = ap (λ (d : Settings). d.chunks) (settings_are c bs so)

  module _ (place : ℕ) (at : Lacking c s (target s key) key place) where
    -- room at the target's place
    pub room_is : ltb (length (s.bricks.log (s.ids place))) c.chunks ≡ has_room s key
    room_is =
        ap (λ (i : ℕ). ltb (length (s.bricks.log i)) c.chunks) at.at.here
        ∙ ap (ltb (length (s.bricks.log (target s key)))) (sym chunks_are) ∙ sym (or_no _ _ (target_lacks c s key place at))

    -- ---- the effect
    module _ (y : AllYes (copy_asks s key)) (home : ℕ) (from : Stands c s (home_of key) home) where
      -- the home brick holds the chunk
      pub home_holds : held (s.bricks.log (s.ids home)) key ≡ true
      home_holds = ap (λ (i : ℕ). held (s.bricks.log i) key) from.here ∙ y.1.1.1.0

      pub copy_fits : (row : ℕ) → FoundAt (s.bricks.log (s.ids home)) key row → Brings c bs home row place key
      copy_fits row found = record {
        store = so;
        from_in = from.inside;
        from_filled = rw from.here from.some;
        found = found;
        to_in = at.at.inside;
        to_filled = rw at.at.here at.at.some;
        room = ltb-true (length (s.bricks.log (s.ids place))) c.chunks (room_is ∙ y.1.1.0);
      }

      pub one_copied : render (brought s home place key false) (words bs) ≡ render (copy_effect s key) (words bs)
      unfolding copy_effect
      one_copied =
          ap (λ (i : ℕ). render (to_place (s.ids place) i) (words bs)) from.here ∙ ap (λ (i : ℕ). render (to_place i (home_of key)) (words bs)) at.at.here
          ∙ rw (target_lacks c s key place at)
        where
          to_place : ℕ → ℕ → State
          to_place to id = with_chunks s to (append (s.bricks.log to) (new_chunk key false (bytes_in (s.bricks.log id) key)))

  pub none_copied : nothing_to_copy s key ≡ true → words bs ≡ render (copy_effect s key) (words bs)
  unfolding copy_effect
  none_copied n = rw n (sym so.sound.still)
