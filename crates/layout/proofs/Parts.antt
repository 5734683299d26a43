-- Each part of what is decoded, read from its own words: of any words of the right length, sound or not.
use mathlib.Core.Path.{◌≡◌, refl, ap, ◌∙◌}
use mathlib.Core.List.{List, [], ◌∷◌}
use mathlib.Core.Bool.{true, false}
use Prim.Native.Nat.{ℕ, ◌<◌}
use native.Mathlib.Omega.{arith}
use lib.ListN.{length, take, get_or}
use Rattle.lists.specs.Runs.{run}
use Rattle.rules.specs.Limits.{proxies, buckets}
use Rattle.codec.specs.Codec.{Codec}
use Rattle.codec.proofs.Focus.{Focus, ◌through◌, part_length, read_word}
use Rattle.layout.specs.Places.{by_id, Apart}
use Rattle.layout.specs.Contents.{Place, Contents, blank_brick}
use Rattle.layout.specs.Layout.{head_words, head_codec, agreed_codec, proxy_codec, bag_codec, place_codec, store_codec, settings_of, store_words}
use Rattle.layout.specs.Layout.{agreed_part, proxy_part, bag_part, place_part, view_at, given_at, started_at, next_at}
use Rattle.layout.specs.Store.{brick_at, agreed_in, contents_of, decode}
use Rattle.layout.proofs.Foci.{view_in, given_in, started_in, head_in, bag_in, next_of, agreed_focus, proxy_focus, place_focus}
use Rattle.layout.proofs.Places.{of_map, of_same}
use Rattle.layout.proofs.Decoded.{tidy, as_decoded}

-- ---- the settings are the four words after the version
four : (w : List ℕ)
    → (head_codec.dec (take head_words w)).settings ≡ record { places = get_or w 1 0; size = get_or w 2 0; entries = get_or w 3 0; chunks = get_or w 4 0 }
four [] = refl
four (v ∷ []) = refl
four (v ∷ a ∷ []) = refl
four (v ∷ a ∷ b ∷ []) = refl
four (v ∷ a ∷ b ∷ c ∷ []) = refl
four (v ∷ a ∷ b ∷ c ∷ d ∷ w) = refl

module _ (ws : List ℕ) where
  pub settings_are : settings_of ws ≡ record { places = get_or ws 1 0; size = get_or ws 2 0; entries = get_or ws 3 0; chunks = get_or ws 4 0 }
  unfolding settings_of
  settings_are = four ws

-- ---- the other parts, of words of the right length
module _ (ws : List ℕ) (h : length ws ≡ store_words (settings_of ws)) where
  pub view_read : (decode ws).view ≡ get_or ws view_at 0
  unfolding decode
  view_read = read_word (head_in (settings_of ws) through view_in) ws h (refl, ((refl, refl), refl))

  pub given_read : (decode ws).given ≡ get_or ws given_at 0
  unfolding decode
  given_read = read_word (head_in (settings_of ws) through given_in) ws h (refl, (((refl, refl), refl), refl))

  pub started_read : (decode ws).started ≡ get_or ws started_at 0
  unfolding decode
  started_read = read_word (head_in (settings_of ws) through started_in) ws h (refl, (((refl, refl), refl), refl))

  pub agreed_read : (g : ℕ) → g < buckets (settings_of ws) → agreed_in ((decode ws).bucket g) ≡ agreed_codec.dec (agreed_part g ws)
  unfolding decode
  agreed_read g l = (agreed_focus (settings_of ws) g l).read ws h ((refl, refl), λ j m z. refl)

  pub proxy_read : (p : ℕ) → p < proxies → (contents_of (decode ws)).proxy p ≡ proxy_codec.dec (proxy_part (settings_of ws) p ws)
  unfolding decode
  proxy_read p l = (proxy_focus (settings_of ws) p l).read ws h (((refl, refl), refl), λ j m z. refl)

  pub bag_read : (decode ws).bag ≡ bag_codec.dec (bag_part (settings_of ws) ws)
  unfolding decode
  bag_read = (bag_in (settings_of ws)).read ws h (((refl, refl), refl), refl)

  module _ (p : ℕ) (l : p < (settings_of ws).places) where
    disk_place : ((store_codec (settings_of ws)).dec ws).place p ≡ (place_codec (settings_of ws)).dec (place_part (settings_of ws) p ws)
    disk_place = (place_focus (settings_of ws) p l).read ws h ((((refl, refl), refl), refl), λ j m z. refl)

    -- the id at a place
    pub id_read : (decode ws).ids p ≡ get_or (place_part (settings_of ws) p ws) 0 0
    unfolding decode
    id_read = ap (λ (x : Place). x.fst) disk_place

    -- a place: its id, and what stands under that id
    pub place_read : Apart (settings_of ws).places (decode ws).ids
        → (contents_of (decode ws)).place p ≡ (place_codec (settings_of ws)).dec (place_part (settings_of ws) p ws)
    place_read apart = ap (λ (d : Contents). d.place p) (as_decoded ws apart) ∙ disk_place

    -- a part of a place that holds a brick, and that part of what stands under its id
    pub place_seen : Apart (settings_of ws).places (decode ws).ids → {B : Type 0} {d : Codec B} (φ : Focus (place_codec (settings_of ws)) d)
        → φ.Else ((contents_of (decode ws)).place p) ((contents_of (decode ws)).place p)
        → φ.see ((contents_of (decode ws)).place p) ≡ d.dec (run φ.off d.size (place_part (settings_of ws) p ws))
    place_seen apart φ e =
        let r = place_read apart in
        ap φ.see r ∙ φ.read (place_part (settings_of ws) p ws) (part_length (place_focus (settings_of ws) p l) ws h) (rw r at e)

    next_word : 0 < (decode ws).ids p
        → (((store_codec (settings_of ws)).dec ws).place p).snd.status.next
        ≡ get_or (place_part (settings_of ws) p ws) next_at 0
    next_word o =
        let z : 0 < get_or (place_part (settings_of ws) p ws) 0 0 = rw id_read at o in
        ap (λ (x : Place). x.snd.status.next) disk_place
        ∙ read_word (next_of (settings_of ws)) (place_part (settings_of ws) p ws) (part_length (place_focus (settings_of ws) p l) ws h)
        ((refl, z), (refl, (((refl, refl), refl), refl)))

  -- ---- two columns, from the words of the places: what a key is held against
  pub present_column : (i : ℕ) → (decode ws).bricks.present i ≡ by_id (settings_of ws).places (decode ws).ids false (λ p. true) i
  unfolding decode brick_at settings_of
  present_column i =
      let d : Contents = (store_codec (settings_of ws)).dec ws in
      of_map (settings_of ws).places (decode ws).ids blank_brick (λ p. (d.place p).snd) (λ b. b.present) i
      ∙ of_same (settings_of ws).places (decode ws).ids false (λ p. (d.place p).snd.present) (λ p. true) i (λ p l e o. (tidy ws).present p (omega arith))

  pub next_column : (i : ℕ)
      → (decode ws).bricks.next i
      ≡ by_id (settings_of ws).places (decode ws).ids 0 (λ p. get_or (place_part (settings_of ws) p ws) next_at 0) i
  unfolding decode brick_at settings_of
  next_column i =
      let d : Contents = (store_codec (settings_of ws)).dec ws in
      of_map (settings_of ws).places (decode ws).ids blank_brick (λ p. (d.place p).snd) (λ b. b.status.next) i
      ∙ of_same (settings_of ws).places (decode ws).ids 0 (λ p. (d.place p).snd.status.next) _ i (λ p l e o. next_word p l (omega arith))
