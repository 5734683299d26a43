-- What stands at a place, read from the bytes of the place; and what stands under an id.
use mathlib.Core.Path.{◌≡◌, refl, sym, ap, subst, ◌∙◌}
use mathlib.Core.List.{List}
use Prim.Native.Nat.{ℕ, ◌≤◌, ◌<◌}
use native.Mathlib.Omega.{arith}
use lib.ListN.{length}
use mathlib.Core.Bool.{true, false}
use borrow.Author.Tests.{lt-ltb, le-ltb, ltb-true}
use Rattle.lists.specs.Runs.{run}
use Rattle.lists.specs.Tests.{◌and◌}
use Rattle.lists.proofs.Tests.{by, both, no_second, and_l}
use Rattle.words.specs.Words.{words}
use Rattle.words.proofs.Laws.{length_words}
use Rattle.rules.specs.declared.settings.Settings.{Settings}
use Rattle.rules.specs.Derived.{up_member, is_up}
use Rattle.rules.specs.Question.{first_no, is_place}
use Rattle.rules.specs.State.{State}
use Rattle.rules.proofs.Questions.{all_yes}
use Rattle.codec.specs.Codec.{Codec}
use Rattle.codec.proofs.Focus.{Focus}
use Rattle.layout.specs.Contents.{Place, Contents, blank_brick}
use Rattle.layout.specs.Layout.{place_codec, store_codec, settings_of, place_part, place_words}
use Rattle.layout.specs.Store.{brick_at, brick_in, contents_of, decode}
use Rattle.layout.proofs.Parts.{place_read}
use Rattle.layout.proofs.Sound.{words_apart}
use Rattle.layout.proofs.Places.{of_none}
use Rattle.lent.specs.Asks.{place_asks}
use Rattle.lent.specs.Stores.{StoreOf}
use Rattle.lent.specs.Places.{PlacePart}
use Rattle.lent.proofs.Stores.{settings_are, facts}

-- an up member stands at the place
pub record UpPlace (c : Settings) (s : State) (p : ℕ) : Type 0 where
  pub inside : p < c.places
  pub up : up_member s (s.ids p) ≡ true
  pub filled : 0 < s.ids p

-- ---- a place
module _ (c : Settings) (bs part : List ℕ) (v : StoreOf c bs) (p : ℕ) (l : p < c.places) (h : PlacePart c p bs part) where
  pub place_is : (contents_of (decode (words bs))).place p ≡ (place_codec c).dec (words part)
  place_is =
      subst (λ (x : Settings). p < x.places → words part ≡ place_part x p (words bs) → (contents_of (decode (words bs))).place p ≡ (place_codec x).dec (words part))
      (sym v.same)
      (λ m e. place_read (words bs) v.sound.size p m (words_apart (words bs) v.sound) ∙ ap (place_codec (settings_of (words bs))).dec (sym e)) l
      h.same

  pub id_is : (decode (words bs)).ids p ≡ ((place_codec c).dec (words part)).fst
  id_is = ap (λ (x : Place). x.fst) place_is

  pub part_words : length (words part) ≡ place_words c
  part_words = length_words part ∙ omega (arith, h.size)

  -- a part of what stands there
  pub seen : {B : Type 0} {d : Codec B} (φ : Focus (place_codec c) d) → φ.Else ((contents_of (decode (words bs))).place p) ((contents_of (decode (words bs))).place p)
      → φ.see ((contents_of (decode (words bs))).place p) ≡ d.dec (run φ.off d.size (words part))
  seen φ e = ap φ.see place_is ∙ φ.read (words part) part_words (rw place_is at e)

-- ---- under an id that stands nowhere all is blank
pub nowhere : (c : Settings) (bs : List ℕ) → StoreOf c bs → (id : ℕ) → ((p : ℕ) → p < c.places → (decode (words bs)).ids p ≡ id → 0 < id → ⊥)
    → brick_in (decode (words bs)) id ≡ blank_brick
nowhere c bs v id u = blank (words bs) id (λ p l. u p (rw v.same l))
  where
    blank : (ws : List ℕ) (id : ℕ) → ((p : ℕ) → p < (settings_of ws).places → (decode ws).ids p ≡ id → 0 < id → ⊥) → brick_in (decode ws) id ≡ blank_brick
    blank ws id u =
        unfold decode settings_of brick_at in
        let d : Contents = (store_codec (settings_of ws)).dec ws in
        of_none d.head.settings.places (λ p. (d.place p).fst) blank_brick (λ p. (d.place p).snd) id u

module _ (c : Settings) (bs : List ℕ) (v : StoreOf c bs) where
  pub zero_blank : (i : ℕ) → i ≡ 0 → brick_in (decode (words bs)) i ≡ blank_brick
  zero_blank i z = nowhere c bs v i (λ p l e o. omega arith)

  -- a member is up
  pub member_up : (i : ℕ) → (decode (words bs)).bricks.member i ≡ up_member (decode (words bs)) i
  member_up i =
      by ((decode (words bs)).bricks.member i) (λ y. y ∙ sym (both _ _ ((facts c bs v).bricks.member_up i y) y)) (λ n. n ∙ sym (no_second _ _ n))

  -- ---- questions 3 and 6 of a place, by the settings that were read
  places_are : (decode (words bs)).settings.places ≡ c.places
  places_are = ap (λ (d : Settings). d.places) (settings_are c bs v)

  pub no_place : (p : ℕ) → c.places ≤ p → is_place (decode (words bs)) p ≡ false
  no_place p h = le-ltb p (decode (words bs)).settings.places (rw places_are h)

  pub is_place_yes : (p : ℕ) → p < c.places → is_place (decode (words bs)) p ≡ true
  is_place_yes p h = lt-ltb p (decode (words bs)).settings.places (rw places_are h)

  pub place_inside : (p : ℕ) → is_place (decode (words bs)) p ≡ true → p < c.places
  place_inside p y = rw places_are at (ltb-true p (decode (words bs)).settings.places y)

  -- a brick that is up is there
  pub up_filled : (p : ℕ) → is_up (decode (words bs)) p ≡ true → 0 < (decode (words bs)).ids p
  up_filled p y = let id = (decode (words bs)).ids p in (facts c bs v).bricks.first id ((facts c bs v).bricks.up_present id y)

  -- all of them answered yes
  pub place_yes : (p : ℕ) → first_no (place_asks (decode (words bs)) p) ≡ 0 → UpPlace c (decode (words bs)) p
  unfolding ◌and◌
  place_yes p e =
      let y = all_yes (place_asks (decode (words bs)) p) refl e in
      record { inside = place_inside p (search); up = search; filled = up_filled p (search and_l) }
