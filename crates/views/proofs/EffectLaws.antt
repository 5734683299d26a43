-- What the writes of the event view leave: the words of the state that it makes.
use mathlib.Core.Path.{◌≡◌, refl, sym, ap, ◌∙◌}
use mathlib.Core.List.{List, ◌++◌}
use Prim.Native.Nat.{ℕ, suc, ◌+◌, ◌*◌, ◌-◌}
use native.Mathlib.Numerals.{add-one}
use lib.ListN.{length, take, drop, set}
use Rattle.lists.specs.Tests.{count_below}
use Rattle.words.specs.Words.{words}
use Rattle.rules.specs.declared.settings.Settings.{Settings}
use Rattle.rules.specs.State.{State}
use Rattle.rules.specs.Pairs.{Assignments, id_in}
use Rattle.rules.specs.Derived.{is_up}
use Rattle.rules.specs.Views.{view_pairs, viewed_bucket, view_effect}
use Rattle.codec.specs.Codec.{change}
use Rattle.codec.proofs.Focus.{◌through◌}
use Rattle.layout.specs.Layout.{all_places_codec, settings_of, places_at, view_at, started_at}
use Rattle.layout.specs.Store.{decode, render}
use Rattle.layout.proofs.Foci.{head_in, view_in, started_in}
use Rattle.layout.proofs.Changes.{again_word, change_word}
use Rattle.lent.specs.Stores.{StoreOf}
use Rattle.lent.proofs.Stores.{settings_are}
use Rattle.lent.proofs.AllPlaces.{places_changed}
use Rattle.views.specs.Begin.{begun}

-- ---- the states that the writes go through
abbrev heading : State → ℕ → ℕ → State
heading s view started = record {
  settings = s.settings;
  ids = s.ids;
  given = s.given;
  view = view;
  started = started;
  bricks = s.bricks;
  bucket = s.bucket;
  bag = s.bag;
  items = s.items;
  known = s.known;
}

abbrev paired : State → Assignments → State
paired s assigned = record {
  settings = s.settings;
  ids = s.ids;
  given = s.given;
  view = s.view;
  started = s.started;
  bricks = s.bricks;
  bucket = λ g. viewed_bucket (id_in assigned (2 * g)) (id_in assigned (2 * g + 1)) (s.bucket g);
  bag = s.bag;
  items = s.items;
  known = s.known;
}

module _ (c : Settings) (bs : List ℕ) (v : StoreOf c bs) (started : ℕ) where
  abbrev s : State
  s = decode (words bs)

  abbrev pub head_written : State
  head_written = heading s (suc s.view) started

  -- the header
  pub headed : (view : ℕ) (w1 w2 : List ℕ) → view ≡ s.view → w1 ≡ set (words bs) view_at (view + 1) → w2 ≡ set w1 started_at started
      → w2 ≡ render head_written (words bs)
  headed view w1 w2 ev e1 e2 =
      let sd = v.sound in
      let own = settings_of (words bs) in
      let first : State = heading s (suc s.view) s.started in
      e2 ∙ ap (λ (w : List ℕ). set w started_at started)
      (e1 ∙ ap (λ (n : ℕ). set (words bs) view_at n) (add-one view ∙ ap suc ev)
      ∙ sym (change_word (words bs) sd (head_in own through view_in) first refl (refl, ((refl, refl), refl))))
      ∙ sym (again_word (words bs) sd (head_in own through started_in) first head_written refl refl (refl, (((refl, refl), refl), refl)))

  -- the header and the buckets' records
  abbrev pub records_written : Assignments → State
  records_written assigned = paired head_written assigned

  -- and the places, from byte o to byte e: the whole effect
  pub viewed : (assigned : Assignments) → started ≡ count_below c.places (is_up s) → assigned ≡ view_pairs s → (vs : List ℕ)
      → words vs ≡ render (records_written assigned) (words bs) → length vs ≡ length bs → (o e : ℕ) → o ≡ 8 * places_at c → e ≡ o + 8 * (all_places_codec c).size
      → (part : List ℕ) → length part ≡ e - o → words part ≡ change (all_places_codec c) (λ places p. begun (places p)) (words (take (e - o) (drop o vs)))
      → words (take o vs ++ (part ++ drop (e - o) (drop o vs))) ≡ render (view_effect s) (words bs)
  unfolding view_effect
  viewed assigned es ep vs w l o e eo ee part lp et =
      places_changed c bs v (records_written assigned) refl refl vs w l o e eo ee (view_effect s) refl (rw (es, ← settings_are c bs v) refl) (rw ep refl) refl refl
      begun refl part lp et
