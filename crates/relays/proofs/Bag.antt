-- The bag of a lent store: what is read there, and what a change of it leaves.
use mathlib.Core.Path.{◌≡◌, refl, sym, ap, ◌∙◌}
use mathlib.Core.List.{List, ◌++◌}
use Prim.Native.Nat.{ℕ, ◌+◌, ◌*◌, ◌-◌, ◌<◌}
use native.Mathlib.Omega.{arith}
use lib.ListN.{length, get_or, take, drop}
use Rattle.lists.proofs.Runs.{run_length}
use Rattle.lists.proofs.Tests.{get_or_in}
use Rattle.words.specs.Words.{words}
use Rattle.rules.specs.declared.settings.Settings.{Settings}
use Rattle.rules.specs.Limits.{max_relays}
use Rattle.rules.specs.State.{State, Relay, blank_relay, set_bag}
use Rattle.rules.specs.Maps.{relay_at}
use Rattle.rules.specs.Derived.{bucket_no}
use Rattle.codec.specs.Codec.{change}
use Rattle.layout.specs.Contents.{relay_row}
use Rattle.layout.specs.Layout.{bag_codec, bag_words}
use Rattle.layout.specs.Store.{decode, render}
use Rattle.layout.proofs.Foci.{bag_in}
use Rattle.entries.proofs.Tables.{count_is, is_table}
use Rattle.bag.specs.declared.Relay.{Relay as Read}
use Rattle.bag.specs.Relays as bag
use Rattle.lent.specs.Stores.{StoreOf}
use Rattle.lent.proofs.Stores.{facts}
use Rattle.lent.proofs.Effects.{later_value, later_effect}
use Rattle.relays.specs.Relays.{BagSpan, BagPart, relay_of}

module _ (c : Settings) (bs : List ℕ) (v : StoreOf c bs) (o e : ℕ) (p : BagSpan c o e) where
  abbrev state : State
  state = decode (words bs)

  size_is : e ≡ o + 8 * bag_words
  size_is = omega (arith, p.start, p.end)

  -- ---- in bytes that changes elsewhere have led to, which left the state t
  module _ (t : State) (a : t.settings ≡ state.settings) (q : t.bag ≡ state.bag) (vs : List ℕ) (w : words vs ≡ render t (words bs))
      (l : length vs ≡ length bs) where
    part_long : length (take (e - o) (drop o vs)) ≡ 8 * bag_words
    part_long = run_length o (e - o) vs (omega (arith, p.inside, v.size, l, size_is)) ∙ omega (arith, size_is)

    pub bag_later : BagPart state.bag (take (e - o) (drop o vs))
    bag_later =
        let same = later_value c bs v (bag_in c) (((refl, refl), refl), refl) t a q vs w l o e p.start size_is (((refl, refl), refl), refl) in
        record {
          table = is_table relay_row max_relays state.bag (facts c bs v).bag_room (words (take (e - o) (drop o vs))) same _ part_long;
          same = same;
          count = sym (count_is relay_row max_relays (words (take (e - o) (drop o vs)))) ∙ ap length same;
        }

    pub bag_changed : (f : List Relay → List Relay) (part : List ℕ) → length part ≡ length (take (e - o) (drop o vs))
        → words part ≡ change bag_codec f (words (take (e - o) (drop o vs)))
        → words (take o vs ++ (part ++ drop (e - o) (drop o vs))) ≡ render (set_bag t (f state.bag)) (words bs)
    bag_changed f part lp ep =
        later_effect c bs v (bag_in c) (((refl, refl), refl), refl) t a q vs w l o e p.start size_is (set_bag t (f state.bag)) a
        (((refl, refl), refl), refl) part (lp ∙ part_long) f refl ep

  -- ---- in the first bytes
  pub bag_lent : BagPart state.bag (take (e - o) (drop o bs))
  bag_lent = bag_later state refl refl bs (sym v.sound.still) refl

  pub bag_becomes : (f : List Relay → List Relay) (part : List ℕ) → length part ≡ length (take (e - o) (drop o bs))
      → words part ≡ change bag_codec f (words (take (e - o) (drop o bs)))
      → words (take o bs ++ (part ++ drop (e - o) (drop o bs))) ≡ render (set_bag state (f state.bag)) (words bs)
  bag_becomes = bag_changed state refl refl bs (sym v.sound.still) refl

-- ---- a relay, as the code has read it from the bag's words w
module _ (c : Settings) (bs : List ℕ) (v : StoreOf c bs) (i : ℕ) (h : i < length (decode (words bs)).bag) (w : List ℕ)
    (same : bag_codec.dec w ≡ (decode (words bs)).bag) where
  abbrev found : Relay
  found = relay_at (decode (words bs)) i

  -- its bucket is its block's
  own_bucket : bucket_no (decode (words bs)) found.block ≡ found.bucket
  own_bucket = ((facts c bs v).relays found (get_or_in (decode (words bs)).bag i blank_relay h)).bucket

  abbrev of_block : Relay → Relay
  of_block r = record { view = r.view; bucket = bucket_no (decode (words bs)) r.block; order = r.order; block = r.block; key = r.key }

  pub relay_read : (r : Read) → bag.relay_of r ≡ bag.relay_in_words w i → relay_of (decode (words bs)) r ≡ found
  relay_read r e =
      ap of_block (e ∙ ap (λ (l : List Relay). get_or l i blank_relay) same)
      ∙ ap (λ (g : ℕ). record { view = found.view; bucket = g; order = found.order; block = found.block; key = found.key }) own_bucket
