-- The places: no id at two of them, and each as the rules want it.
use mathlib.Core.Path.{◌≡◌, sym, ap, ◌∙◌}
use mathlib.Core.List.{List}
use mathlib.Core.Bool.{Bool, true, not}
use Prim.Native.Nat.{ℕ, ◌<◌}
use native.Mathlib.Omega.{arith}
use lib.Dec.{leb, eqb}
use lib.ListN.{length, get_or}
use borrow.Author.Tests.{ne_eqb}
use Rattle.lists.specs.Tests.{◌and◌, ◌or◌, all_below}
use Rattle.lists.specs.Runs.{Below}
use Rattle.lists.proofs.Tests.{by_eq, and_l, and_r, both, or_l, or_r, or_second, all_same}
use Rattle.rules.specs.declared.settings.Settings.{Settings}
use Rattle.rules.specs.State.{State}
use Rattle.rules.specs.Sound.{sound_key, sound_brick, alone, sound_place}
use Rattle.rules.specs.Limits.{Limits}
use Rattle.codec.specs.Codec.{word_limit}
use Rattle.layout.specs.Places.{Apart}
use Rattle.layout.specs.Layout.{settings_of, store_words, place_part, given_at}
use Rattle.layout.specs.Store.{decode}
use Rattle.layout.proofs.Clean.{PlaceClean}
use Rattle.layout.proofs.Parts.{given_read, id_read}
use Rattle.layout.proofs.Sound.{places_apart as apart_of}
use Rattle.store_check.specs.Places.{brick_sound, id_at, place_sound}
use Rattle.store_check.proofs.KeyLaws.{id_here}
use Rattle.store_check.proofs.BrickSound.{brick_there, brick_back}

-- ---- a place, and two tests of its brick
module _ (given : ℕ) (ids : ℕ → ℕ) (f g : ℕ → Bool) (p : ℕ) where
  has_brick : sound_place given ids f p ≡ true → 0 < ids p → f p ≡ true
  unfolding sound_place
  has_brick y z = and_r _ _ (or_second _ _ y (ne_eqb (ids p) 0 (λ e. omega arith)))

  with_brick : (0 < ids p → f p ≡ true → g p ≡ true) → sound_place given ids f p ≡ true → sound_place given ids g p ≡ true
  unfolding sound_place
  with_brick k y =
      by_eq (ids p) 0 (λ q e. or_l _ _ q)
      (λ q e. let t = or_second _ _ y q in or_r _ _ (both _ _ (and_l _ _ t) (k (omega arith) (and_r _ _ t))))

module _ (ws : List ℕ) (h : length ws ≡ store_words (settings_of ws)) where
  abbrev c : Settings
  c = settings_of ws

  abbrev s : State
  s = decode ws

  abbrev given : ℕ
  given = get_or ws given_at 0

  abbrev in_words : ℕ → Bool
  in_words p = brick_sound c (sound_key s) (place_part c p ws)

  abbrev in_state : ℕ → Bool
  in_state p = sound_brick s (s.ids p)

  -- ---- no id at two places
  pub places_apart : all_below c.places (place_sound c (sound_key s) given ws) ≡ true → Apart c.places s.ids
  places_apart y p q hp hq e o =
      apart_of given c.places (id_at c ws) in_words y p q hp hq (sym (id_here ws h p hp) ∙ e ∙ id_here ws h q hq) (omega (arith, id_here ws h p hp))

  -- ---- one place
  module _ (p : ℕ) (l : p < c.places) where
    alone_same : alone (id_at c ws) p ≡ alone s.ids p
    unfolding alone
    alone_same =
        all_same p (λ q. not (eqb (id_at c ws q) (id_at c ws p))) (λ q. not (eqb (s.ids q) (s.ids p)))
        (λ q m. rw (id_here ws h q (omega arith), id_here ws h p l))

    place_same : (brick : ℕ → Bool) → sound_place given (id_at c ws) brick p ≡ sound_place s.given s.ids brick p
    unfolding sound_place
    place_same brick =
        ap (λ (a : Bool). eqb (id_at c ws p) 0 or (leb (id_at c ws p) given and a and brick p)) alone_same
        ∙ ap (λ (k : ℕ). eqb k 0 or (leb k given and alone s.ids p and brick p)) (sym (id_here ws h p l))
        ∙ ap (λ (n : ℕ). eqb (s.ids p) 0 or (leb (s.ids p) n and alone s.ids p and brick p)) (sym (given_read ws h))

    in_place : s.ids p ≡ get_or (place_part c p ws) 0 0
    in_place = id_read ws h p l

    module _ (lim : Limits c) (b : Below word_limit ws) (apart : Apart c.places s.ids) where
      pub place_there : place_sound c (sound_key s) given ws p ≡ true
          → (sound_place s.given s.ids in_state p ≡ true) × (0 < get_or (place_part c p ws) 0 0 → PlaceClean c (place_part c p ws))
      place_there y =
          let t = sym (place_same in_words) ∙ y in (
            with_brick s.given s.ids in_words in_state p (λ z x. (brick_there ws h apart p l z lim b x).1) t,
            λ o. let z : 0 < s.ids p = omega (arith, in_place) in
                (brick_there ws h apart p l z lim b (has_brick s.given s.ids in_words in_state p t z)).0,
          )

      pub place_back : (0 < get_or (place_part c p ws) 0 0 → PlaceClean c (place_part c p ws)) → sound_place s.given s.ids in_state p ≡ true
          → place_sound c (sound_key s) given ws p ≡ true
      place_back k y =
          place_same in_words
          ∙ with_brick s.given s.ids in_state in_words p (λ z x. brick_back ws h apart p l z lim b (k (omega (arith, in_place))) x) y
