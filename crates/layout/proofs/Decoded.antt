-- What is decoded from words, sound or not: its columns are those of the places.
use mathlib.Core.Path.{◌≡◌, refl}
use mathlib.Core.List.{List}
use mathlib.Core.Bool.{Bool, true, false, cond}
use Prim.Native.Nat.{ℕ, ◌≤◌, ◌<◌}
use native.Mathlib.Omega.{arith}
use lib.Dec.{eqb, ltb}
use lib.ListN.{take, drop, get_or}
use borrow.Author.Tests.{eq-eqb, ne_eqb, le-ltb}
use Rattle.lists.specs.Runs.{nth_run}
use Rattle.lists.proofs.Tests.{by, either}
use Rattle.rules.specs.declared.settings.Settings.{Settings}
use Rattle.rules.specs.Limits.{proxies, buckets}
use Rattle.rules.proofs.Placed.{Placed}
use Rattle.layout.specs.Places.{Apart}
use Rattle.layout.specs.Contents.{Place, blank_agreed, blank_proxy, blank_copies, blank_brick, blank_place}
use Rattle.layout.specs.Layout.{head_codec, all_agreed_codec, all_proxies_codec, bag_codec, place_codec, all_places_codec, store_codec, settings_of}
use Rattle.layout.specs.Store.{contents_of, decode}
use Rattle.layout.proofs.Views.{Tidy, placed, disk_back}

-- ---- a place, read from any words: an empty one has the blank brick, and a brick at a place is here
module _ (c : Settings) where
  if_present_empty : (w : List ℕ) → ((place_codec c).dec w).fst ≡ 0 → ((place_codec c).dec w).snd ≡ blank_brick
  if_present_empty w e = rw (eq-eqb (get_or w 0 0) 0 e)

  if_present_filled : (w : List ℕ) → 0 < ((place_codec c).dec w).fst → ((place_codec c).dec w).snd.present ≡ true
  if_present_filled w e = rw (ne_eqb (get_or w 0 0) 0 (λ z. omega arith))

  choice_empty : (b : Bool) (w : List ℕ) → (cond b ((place_codec c).dec w) blank_place).fst ≡ 0 → (cond b ((place_codec c).dec w) blank_place).snd ≡ blank_brick
  choice_empty true w e = if_present_empty w e
  choice_empty false w e = refl

  choice_here : (b : Bool) (w : List ℕ) → 0 < (cond b ((place_codec c).dec w) blank_place).fst → (cond b ((place_codec c).dec w) blank_place).snd.present ≡ true
  choice_here true w e = if_present_filled w e
  choice_here false w e = absurd (omega arith)

  module _ (w : List ℕ) (p : ℕ) where
    place_empty : ((all_places_codec c).dec w p).fst ≡ 0 → ((all_places_codec c).dec w p).snd ≡ blank_brick
    place_empty = choice_empty (ltb p c.places) (nth_run (place_codec c).size p w)

    place_here : 0 < ((all_places_codec c).dec w p).fst → ((all_places_codec c).dec w p).snd.present ≡ true
    place_here = choice_here (ltb p c.places) (nth_run (place_codec c).size p w)

    place_beyond : c.places ≤ p → ((all_places_codec c).dec w p).fst ≡ 0
    place_beyond h = rw (le-ltb p c.places h)

  -- copies beyond the buckets are blank
  if_present_beyond : (w : List ℕ) (g : ℕ) → buckets c ≤ g → ((place_codec c).dec w).snd.copies g ≡ blank_copies
  if_present_beyond w g h = by (eqb (get_or w 0 0) 0) (λ q. rw q) (λ q. rw (q, le-ltb g (buckets c) h))

  copies_beyond : (w : List ℕ) (p g : ℕ) → buckets c ≤ g → ((all_places_codec c).dec w p).snd.copies g ≡ blank_copies
  copies_beyond w p g h =
      either (λ (x : Place). x.snd.copies g ≡ blank_copies) (ltb p c.places) (λ _. if_present_beyond (nth_run (place_codec c).size p w) g h) (λ _. refl)

  agreed_beyond : (w : List ℕ) (g : ℕ) → buckets c ≤ g → (all_agreed_codec c).dec w g ≡ blank_agreed
  agreed_beyond w g h = rw (le-ltb g (buckets c) h)

proxy_beyond : (w : List ℕ) (p : ℕ) → proxies ≤ p → all_proxies_codec.dec w p ≡ blank_proxy
proxy_beyond w p h = rw (le-ltb p proxies h)

-- ---- words decoded
module _ (ws : List ℕ) where
  abbrev from_agreed : List ℕ
  from_agreed = drop head_codec.size ws

  abbrev from_proxies : List ℕ
  from_proxies = drop (all_agreed_codec (settings_of ws)).size from_agreed

  abbrev from_places : List ℕ
  from_places = drop bag_codec.size (drop all_proxies_codec.size from_proxies)

  pub tidy : Tidy ((store_codec (settings_of ws)).dec ws)
  unfolding settings_of
  tidy = record {
    empty = place_empty (settings_of ws) from_places;
    present = place_here (settings_of ws) from_places;
    beyond = place_beyond (settings_of ws) from_places;
    no_copies = copies_beyond (settings_of ws) from_places;
    no_agreed = agreed_beyond (settings_of ws) (take (all_agreed_codec (settings_of ws)).size from_agreed);
    no_proxy = proxy_beyond (take all_proxies_codec.size from_proxies);
  }

  pub settings_read : (decode ws).settings ≡ settings_of ws
  unfolding decode settings_of
  settings_read = refl

  -- the columns of what is decoded are those of its places
  pub decoded_placed : Placed (decode ws)
  unfolding decode
  decoded_placed = placed ((store_codec (settings_of ws)).dec ws) tidy

  -- where no id stands at two places, the store by place is as it was read
  pub as_decoded : Apart (settings_of ws).places (decode ws).ids → contents_of (decode ws) ≡ (store_codec (settings_of ws)).dec ws
  unfolding decode settings_of
  as_decoded apart = disk_back ((store_codec (settings_of ws)).dec ws) tidy apart
