-- One of all places, lent to a function that changes what stands there; and all places, lent to a loop over them.
use mathlib.Core.Path.{◌≡◌, refl, sym, ap, subst, ◌∙◌}
use mathlib.Core.List.{List, ◌++◌}
use Prim.Native.Nat.{ℕ, ◌+◌, ◌*◌, ◌-◌, ◌<◌}
use native.Mathlib.Omega.{arith}
use lib.ListN.{length, take, drop}
use Rattle.lists.proofs.Runs.{run_length}
use Rattle.words.specs.Words.{words}
use Rattle.words.proofs.Laws.{length_words}
use Rattle.rules.specs.declared.settings.Settings.{Settings}
use Rattle.rules.specs.State.{State}
use Rattle.codec.specs.Codec.{Clean, change}
use Rattle.codec.proofs.Focus.{nth, clean_part}
use Rattle.layout.specs.Contents.{Place, blank_place}
use Rattle.layout.specs.Layout.{place_codec, all_places_codec, place_words, places_at}
use Rattle.layout.specs.Store.{contents_of, decode, render}
use Rattle.layout.proofs.Codecs.{place_law}
use Rattle.layout.proofs.Foci.{all_places_in}
use Rattle.layout.specs.Each.{part_of}
use Rattle.layout.proofs.Each.{part_length, part_words}
use Rattle.lent.specs.Stores.{StoreOf}
use Rattle.lent.specs.Places.{CleanPlace, CleanPlaces}
use Rattle.lent.proofs.Effects.{clean_in, later_words, later_effect}

-- ---- one of the places, lent alone
module _ (c : Settings) (bs : List ℕ) (h : CleanPlaces c (words bs) (length bs)) where
  pub each_place : (size i : ℕ) → size ≡ place_words c → i < c.places → (part : List ℕ) → part ≡ part_of size i bs → CleanPlace c (words part) (length part)
  each_place size i es l part e =
      let here : part ≡ part_of (place_words c) i bs = rw es at e in
      let same = ap words here ∙ part_words (place_codec c) c.places bs bs h.size refl bs refl i l in
      record {
        limits = h.limits;
        size = ap length here ∙ part_length (place_words c) c.places i bs h.size l;
        clean = subst (λ (x : List ℕ). Clean (place_codec c) x) (sym same)
            (clean_part (nth (place_law c) c.places blank_place i l) (words bs) (length_words bs ∙ omega (arith, h.size)) (λ j m z. refl) h.clean);
      }

-- ---- all places of a store, in bytes vs that other changes have led to
module _ (c : Settings) (bs : List ℕ) (v : StoreOf c bs) (t : State) (a : t.settings ≡ (decode (words bs)).settings)
    (q : (contents_of t).place ≡ (contents_of (decode (words bs))).place) (vs : List ℕ) (w : words vs ≡ render t (words bs)) (l : length vs ≡ length bs)
    (o e : ℕ) (eo : o ≡ 8 * places_at c) (ee : e ≡ o + 8 * (all_places_codec c).size) where
  pub places_lent : CleanPlaces c (words (take (e - o) (drop o vs))) (length (take (e - o) (drop o vs)))
  places_lent =
      let same = later_words c bs v (all_places_in c) (((refl, refl), refl), refl) t a q vs w l o e eo ee (((refl, refl), refl), refl) in
      record {
        limits = v.limits;
        size = run_length o (e - o) vs (omega (arith, v.size)) ∙ omega arith;
        clean = subst (λ (x : List ℕ). Clean (all_places_codec c) x) (sym same) (clean_in c bs v (all_places_in c) (((refl, refl), refl), refl));
      }

  pub places_changed : (u : State) → u.settings ≡ (decode (words bs)).settings → (contents_of t).head ≡ (contents_of u).head → (contents_of t).agreed ≡ (contents_of u).agreed
      → (contents_of t).proxy ≡ (contents_of u).proxy → t.bag ≡ u.bag → (f : Place → Place) → (contents_of u).place ≡ (λ (p : ℕ). f ((contents_of (decode (words bs))).place p))
      → (part : List ℕ) → length part ≡ e - o → words part ≡ change (all_places_codec c) (λ places p. f (places p)) (words (take (e - o) (drop o vs)))
      → words (take o vs ++ (part ++ drop (e - o) (drop o vs))) ≡ render u (words bs)
  places_changed u b eh ea ep eb f new part lp et =
      later_effect c bs v (all_places_in c) (((refl, refl), refl), refl) t a q vs w l o e eo ee u b (((eh, ea), ep), eb) part (omega arith)
      (λ places p. f (places p)) new et
