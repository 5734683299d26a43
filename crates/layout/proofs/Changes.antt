-- What a change of one part of the state does to the words of a sound store.
use mathlib.Core.Path.{◌≡◌, refl, sym, ap, subst, ◌∙◌}
use mathlib.Core.List.{List}
use Prim.Native.Nat.{ℕ, ◌+◌, ◌<◌}
use native.Mathlib.Omega.{arith}
use lib.ListN.{length, get_or, set}
use Rattle.lists.specs.Runs.{run, on_run}
use Rattle.lists.proofs.Runs.{on_within}
use Rattle.rules.specs.declared.settings.Settings.{Settings}
use Rattle.rules.specs.State.{State}
use Rattle.codec.specs.Codec.{Codec, Clean, ◌&◌, word}
use Rattle.codec.proofs.Focus.{Focus, ◌through◌, on_const, part_length, clean_part, read_word, write_word}
use Rattle.codec.proofs.Changes.{part_stays, part_written}
use Rattle.layout.specs.Places.{Apart}
use Rattle.layout.specs.Contents.{Brick, Place}
use Rattle.layout.specs.Layout.{place_codec, store_codec, settings_of, place_words, place_at}
use Rattle.layout.specs.Store.{brick_in, contents_of, decode, render}
use Rattle.layout.proofs.Places.{one_brick}
use Rattle.layout.proofs.Foci.{place_focus, brick_focus}
use Rattle.layout.proofs.Decoded.{settings_read}
use Rattle.layout.proofs.Sound.{SoundWords, words_apart, by_place, sound_clean}

module _ (ws : List ℕ) (sd : SoundWords ws) where
  -- a state of the same settings is written by the same codec
  pub rendered : (t : State) → t.settings ≡ (decode ws).settings → render t ws ≡ (store_codec (settings_of ws)).enc (contents_of t) ws
  unfolding render
  rendered t e = ap (λ (c : Settings). (store_codec c).enc (contents_of t) ws) (e ∙ settings_read ws)

  module _ {B : Type 0} {d : Codec B} (φ : Focus (store_codec (settings_of ws)) d) where
    abbrev words_of : List ℕ
    words_of = run φ.off d.size ws

    pub words_length : length words_of ≡ d.size
    words_length = part_length φ ws sd.size

    module _ (e : φ.Else (contents_of (decode ws)) (contents_of (decode ws))) where
      -- a part of the state, read from its words
      pub seen : φ.see (contents_of (decode ws)) ≡ d.dec words_of
      seen = ap φ.see (by_place ws sd) ∙ φ.read ws sd.size (rw (by_place ws sd) at e)

      pub cleaned : Clean d words_of
      cleaned = clean_part φ ws sd.size (rw (by_place ws sd) at e) (sound_clean ws sd)

    -- a change of that part alone, and a second change
    pub again : (t u : State) → t.settings ≡ (decode ws).settings → u.settings ≡ (decode ws).settings → φ.Else (contents_of t) (contents_of u)
        → render u ws ≡ on_run φ.off d.size (λ _. d.enc (φ.see (contents_of u)) words_of) (render t ws)
    again t u a b e =
        rendered u b ∙ φ.write (contents_of t) (contents_of u) ws sd.size e
        ∙ ap (on_run φ.off d.size (λ _. d.enc (φ.see (contents_of u)) words_of)) (sym (rendered t a))

    pub part_set : (t : State) → t.settings ≡ (decode ws).settings → φ.Else (contents_of (decode ws)) (contents_of t)
        → render t ws ≡ on_run φ.off d.size (λ _. d.enc (φ.see (contents_of t)) words_of) ws
    part_set t a e = again (decode ws) t refl a e ∙ ap (on_run φ.off d.size (λ _. d.enc (φ.see (contents_of t)) words_of)) sd.still

  module _ (φ : Focus (store_codec (settings_of ws)) word) where
    pub seen_word : φ.Else (contents_of (decode ws)) (contents_of (decode ws)) → φ.see (contents_of (decode ws)) ≡ get_or ws φ.off 0
    seen_word e = ap φ.see (by_place ws sd) ∙ read_word φ ws sd.size (rw (by_place ws sd) at e)

    pub again_word : (t u : State) → t.settings ≡ (decode ws).settings → u.settings ≡ (decode ws).settings → φ.Else (contents_of t) (contents_of u)
        → render u ws ≡ set (render t ws) φ.off (φ.see (contents_of u))
    again_word t u a b e =
        rendered u b ∙ write_word φ (contents_of t) (contents_of u) ws sd.size e ∙ ap (λ (v : List ℕ). set v φ.off (φ.see (contents_of u))) (sym (rendered t a))

    pub change_word : (t : State) → t.settings ≡ (decode ws).settings → φ.Else (contents_of (decode ws)) (contents_of t)
        → render t ws ≡ set ws φ.off (φ.see (contents_of t))
    change_word t a e = again_word (decode ws) t refl a e ∙ ap (λ (v : List ℕ). set v φ.off (φ.see (contents_of t))) sd.still

-- ---- one change after the other, each of a part that no earlier one has changed: t before it, u after it
module _ (ws : List ℕ) (sd : SoundWords ws) {B : Type 0} {d : Codec B} (φ : Focus (store_codec (settings_of ws)) d)
    (present : φ.Else (contents_of (decode ws)) (contents_of (decode ws))) where
  in_words : φ.Else ((store_codec (settings_of ws)).dec ws) ((store_codec (settings_of ws)).dec ws)
  in_words = rw (by_place ws sd) at present

  module _ (t : State) (a : t.settings ≡ (decode ws).settings) (q : φ.see (contents_of t) ≡ φ.see (contents_of (decode ws))) where
    as_read : φ.see (contents_of t) ≡ φ.see ((store_codec (settings_of ws)).dec ws)
    as_read = q ∙ ap φ.see (by_place ws sd)

    -- a part that a state leaves as it was has the words that it had
    pub still_there : φ.Else (contents_of t) (contents_of t) → run φ.off d.size (render t ws) ≡ run φ.off d.size ws
    still_there s =
        ap (run φ.off d.size) (rendered ws sd t a) ∙ part_stays φ ws sd.size (sound_clean ws sd) in_words (contents_of t) s as_read

    module _ (u : State) (b : u.settings ≡ (decode ws).settings) (s : φ.Else (contents_of t) (contents_of u)) where
      -- written by any function that makes the new words of the old ones
      pub part_rendered : (g : List ℕ → List ℕ) → g (run φ.off d.size ws) ≡ d.enc (φ.see (contents_of u)) (run φ.off d.size ws)
          → on_run φ.off d.size g (render t ws) ≡ render u ws
      part_rendered g r =
          ap (on_run φ.off d.size g) (rendered ws sd t a)
          ∙ part_written φ ws sd.size (sound_clean ws sd) in_words (contents_of t) (contents_of u) s as_read g r ∙ sym (rendered ws sd u b)

-- ---- two states that differ in one brick alone
pub record OneBrick (s t : State) (x : ℕ) : Type 0 where
  pub head : (contents_of s).head ≡ (contents_of t).head
  pub agreed : (contents_of s).agreed ≡ (contents_of t).agreed
  pub proxy : (contents_of s).proxy ≡ (contents_of t).proxy
  pub bag : s.bag ≡ t.bag
  pub ids : s.ids ≡ t.ids
  pub others : (i : ℕ) → (i ≡ x → ⊥) → brick_in s i ≡ brick_in t i

-- with distinct ids, an update by id is a change of one place's part
pub only_brick : (c : Settings) (s t : State) (p : ℕ) (h : p < c.places) → Apart c.places s.ids → 0 < s.ids p → OneBrick s t (s.ids p)
    → (brick_focus c p h).Else (contents_of s) (contents_of t)
only_brick c s t p h u z o =
    ((
      (
        (((o.head, o.agreed), o.proxy), o.bag),
        λ j l x. same_place (s.ids j) (t.ids j) (ap (λ (g : ℕ → ℕ). g j) o.ids)
            (one_brick c.places s.ids (brick_in s) (brick_in t) p u h z o.others j l x),
      ),
      (ap (λ (g : ℕ → ℕ). g p) o.ids, z),
    ))
  where
    same_place : (i j : ℕ) → i ≡ j → brick_in s i ≡ brick_in t i → ◌≡◌ {A = Place} (i & brick_in s i) (j & brick_in t j)
    same_place i j q r = subst (λ (k : ℕ). ◌≡◌ {A = Place} (i & brick_in s i) (k & brick_in t k)) q (ap (λ (b : Brick). i & b) r)

-- ---- a change of one brick in a sound store: of the words of its place, and of a part of those
module _ (ws : List ℕ) (sd : SoundWords ws) (t : State) (same : t.settings ≡ (decode ws).settings) (p : ℕ) (h : p < (settings_of ws).places)
    (o : 0 < (decode ws).ids p) (one : OneBrick (decode ws) t ((decode ws).ids p)) where
  one_place : (place_focus (settings_of ws) p h).Else (contents_of (decode ws)) (contents_of t)
  one_place = (only_brick (settings_of ws) (decode ws) t p h (words_apart ws sd) o one).0

  pub place_changed : render t ws
      ≡ on_run (place_at (settings_of ws) p) (place_words (settings_of ws)) ((place_codec (settings_of ws)).enc ((contents_of t).place p)) ws
  place_changed =
      part_set ws sd (place_focus (settings_of ws) p h) t same one_place
      ∙ on_const (place_at (settings_of ws) p) (place_words (settings_of ws)) ((place_codec (settings_of ws)).enc ((contents_of t).place p)) ws

  pub part_changed : {B : Type 0} {d : Codec B} (φ : Focus (place_codec (settings_of ws)) d) → φ.Else ((contents_of (decode ws)).place p) ((contents_of t).place p)
      → render t ws
      ≡ on_run (place_at (settings_of ws) p) (place_words (settings_of ws)) (on_run φ.off d.size (d.enc (φ.see ((contents_of t).place p)))) ws
  part_changed {d = d} φ e =
      let place = place_focus (settings_of ws) p h in
      let whole = place.inside in
      let size = sd.size in
      part_set ws sd (place through φ) t same (one_place, e)
      ∙ on_const (place_at (settings_of ws) p + φ.off) d.size (d.enc (φ.see ((contents_of t).place p))) ws
      ∙ sym (on_within (place_at (settings_of ws) p) (place_words (settings_of ws)) φ.off d.size (d.enc (φ.see ((contents_of t).place p))) ws
      (omega arith) φ.inside)
