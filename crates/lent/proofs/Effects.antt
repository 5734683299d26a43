-- A part of a lent store, read or changed: bytes o to e are lent, and what comes back stands in their place.
use mathlib.Core.Path.{◌≡◌, refl, sym, ap, subst, ◌∙◌}
use mathlib.Core.List.{List, ◌++◌}
use Prim.Native.Nat.{ℕ, ◌+◌, ◌*◌, ◌-◌, ◌<◌}
use native.Mathlib.Omega.{arith}
use lib.ListN.{length, take, drop}
use Rattle.lists.specs.Runs.{run, on_run}
use Rattle.words.specs.Words.{words}
use Rattle.words.proofs.Laws.{lent_run, words_part}
use Rattle.rules.specs.declared.settings.Settings.{Settings}
use Rattle.rules.specs.State.{State}
use Rattle.codec.specs.Codec.{Codec, Clean, change}
use Rattle.codec.proofs.Focus.{Focus, ◌through◌}
use Rattle.layout.specs.Places.{Apart}
use Rattle.layout.specs.Layout.{brick_codec, store_codec, place_at}
use Rattle.layout.specs.Store.{brick_in, contents_of, decode, render}
use Rattle.layout.proofs.Foci.{brick_focus}
use Rattle.layout.proofs.Sound.{words_apart}
use Rattle.layout.proofs.Changes.{seen, cleaned, still_there, part_rendered, OneBrick, only_brick}
use Rattle.lent.specs.Stores.{StoreOf}

-- ---- the store's words hold the state t, which differs from what they held at first, elsewhere than in the part; a change of the part makes it u
abbrev Written : Settings → List ℕ → {B : Type 0} → Codec B → Type 1
Written c bs d = (φ : Focus (store_codec c) d) → φ.Else (contents_of (decode (words bs))) (contents_of (decode (words bs)))
    → (t u : State) → t.settings ≡ (decode (words bs)).settings → u.settings ≡ (decode (words bs)).settings
    → φ.see (contents_of t) ≡ φ.see (contents_of (decode (words bs))) → φ.Else (contents_of t) (contents_of u)
    → (g : List ℕ → List ℕ) → g (run φ.off d.size (words bs)) ≡ d.enc (φ.see (contents_of u)) (run φ.off d.size (words bs))
    → on_run φ.off d.size g (render t (words bs)) ≡ render u (words bs)

abbrev Still : Settings → List ℕ → {B : Type 0} → Codec B → Type 1
Still c bs d = (φ : Focus (store_codec c) d) → φ.Else (contents_of (decode (words bs))) (contents_of (decode (words bs)))
    → (t : State) → t.settings ≡ (decode (words bs)).settings → φ.see (contents_of t) ≡ φ.see (contents_of (decode (words bs))) → φ.Else (contents_of t) (contents_of t)
    → run φ.off d.size (render t (words bs)) ≡ run φ.off d.size (words bs)

module _ (c : Settings) (bs : List ℕ) (v : StoreOf c bs) where
  abbrev state : State
  state = decode (words bs)

  own_size : length bs ≡ 8 * (store_codec c).size
  own_size = v.size

  module _ {B : Type 0} {d : Codec B} where
    -- the part's value is read from its words, and they are clean
    pub seen_in : (φ : Focus (store_codec c) d) → φ.Else (contents_of state) (contents_of state) → φ.see (contents_of state) ≡ d.dec (run φ.off d.size (words bs))
    seen_in =
        subst (λ (x : Settings). (φ : Focus (store_codec x) d) → φ.Else (contents_of state) (contents_of state)
        → φ.see (contents_of state) ≡ d.dec (run φ.off d.size (words bs)))
        (sym v.same) (seen (words bs) v.sound)

    pub clean_in : (φ : Focus (store_codec c) d) → φ.Else (contents_of state) (contents_of state) → Clean d (run φ.off d.size (words bs))
    clean_in =
        subst (λ (x : Settings). (φ : Focus (store_codec x) d) → φ.Else (contents_of state) (contents_of state) → Clean d (run φ.off d.size (words bs)))
        (sym v.same) (cleaned (words bs) v.sound)

    -- ---- in words that other changes have led to: the part is as it was, and is written
    pub still : Still c bs d
    still = subst (λ (x : Settings). Still x bs d) (sym v.same) (λ φ here t a q s. still_there (words bs) v.sound φ here t a q s)

    pub written : Written c bs d
    written =
        subst (λ (x : Settings). Written x bs d) (sym v.same)
        (λ φ here t u a b q s g r. part_rendered (words bs) v.sound φ here t a q u b s g r)

  module _ {B : Type 0} {d : Codec B} (φ : Focus (store_codec c) d) (here : φ.Else (contents_of state) (contents_of state)) (t u : State)
      (a : t.settings ≡ state.settings) (b : u.settings ≡ state.settings) (q : φ.see (contents_of t) ≡ φ.see (contents_of state))
      (s : φ.Else (contents_of t) (contents_of u)) where
    -- a value is written there
    pub assigned : (x : B) → φ.see (contents_of u) ≡ x → on_run φ.off d.size (d.enc x) (render t (words bs)) ≡ render u (words bs)
    assigned x r = written φ here t u a b q s (d.enc x) (ap (λ (y : B). d.enc y (run φ.off d.size (words bs))) (sym r))

    -- its value changes
    pub changed : (f : B → B) → φ.see (contents_of u) ≡ f (φ.see (contents_of state))
        → on_run φ.off d.size (change d f) (render t (words bs)) ≡ render u (words bs)
    changed f r =
        written φ here t u a b q s (change d f) (ap (λ (y : B). d.enc y (run φ.off d.size (words bs))) (ap f (sym (seen_in φ here)) ∙ sym r))

    -- the value of another part, which is as it was, is copied there
    pub copied : (ψ : Focus (store_codec c) d) → ψ.Else (contents_of state) (contents_of state) → ψ.Else (contents_of t) (contents_of t)
        → ψ.see (contents_of t) ≡ ψ.see (contents_of state) → φ.see (contents_of u) ≡ ψ.see (contents_of state)
        → on_run φ.off d.size (d.enc (d.dec (run ψ.off d.size (render t (words bs))))) (render t (words bs)) ≡ render u (words bs)
    copied ψ there e k r =
        assigned (d.dec (run ψ.off d.size (render t (words bs)))) (r ∙ seen_in ψ there ∙ ap d.dec (sym (still ψ there t a k e)))

  module _ {B : Type 0} {d : Codec B} (φ : Focus (store_codec c) d) (here : φ.Else (contents_of state) (contents_of state)) where
    -- ---- the part in the first bytes
    pub lent_words : (o e : ℕ) → o ≡ 8 * φ.off → e ≡ o + 8 * d.size → words (take (e - o) (drop o bs)) ≡ run φ.off d.size (words bs)
    lent_words o e eo ee = words_part bs o (e - o) φ.off d.size eo (omega arith) (omega (arith, own_size, φ.inside))

    pub lent_value : (o e : ℕ) → o ≡ 8 * φ.off → e ≡ o + 8 * d.size → d.dec (words (take (e - o) (drop o bs))) ≡ φ.see (contents_of state)
    lent_value o e eo ee = ap d.dec (lent_words o e eo ee) ∙ sym (seen_in φ here)

    -- ---- the part in bytes that other changes have led to
    module _ (t : State) (a : t.settings ≡ state.settings) (q : φ.see (contents_of t) ≡ φ.see (contents_of state)) (vs : List ℕ)
        (w : words vs ≡ render t (words bs)) (l : length vs ≡ length bs) (o e : ℕ) (eo : o ≡ 8 * φ.off) (ee : e ≡ o + 8 * d.size) where
      -- it is as it was
      pub later_words : φ.Else (contents_of t) (contents_of t) → words (take (e - o) (drop o vs)) ≡ run φ.off d.size (words bs)
      later_words s =
          words_part vs o (e - o) φ.off d.size eo (omega arith) (omega (arith, own_size, φ.inside)) ∙ ap (run φ.off d.size) w ∙ still φ here t a q s

      pub later_value : φ.Else (contents_of t) (contents_of t) → d.dec (words (take (e - o) (drop o vs))) ≡ φ.see (contents_of state)
      later_value s = ap d.dec (later_words s) ∙ sym (seen_in φ here)

      module _ (u : State) (b : u.settings ≡ state.settings) (s : φ.Else (contents_of t) (contents_of u)) (part : List ℕ) (lp : length part ≡ 8 * d.size) where
        -- words are written there
        pub later_written : (g : List ℕ → List ℕ) → g (run φ.off d.size (words bs)) ≡ d.enc (φ.see (contents_of u)) (run φ.off d.size (words bs))
            → words part ≡ g (words (take (e - o) (drop o vs)))
            → words (take o vs ++ (part ++ drop (e - o) (drop o vs))) ≡ render u (words bs)
        later_written g r ep =
            lent_run vs part o (e - o) φ.off d.size g eo (omega arith) (omega (arith, own_size, φ.inside)) lp ep
            ∙ ap (on_run φ.off d.size g) w ∙ written φ here t u a b q s g r

        -- its value changes
        pub later_effect : (g : B → B) → φ.see (contents_of u) ≡ g (φ.see (contents_of state)) → words part ≡ change d g (words (take (e - o) (drop o vs)))
            → words (take o vs ++ (part ++ drop (e - o) (drop o vs))) ≡ render u (words bs)
        later_effect g new ep =
            later_written (change d g) (ap (λ (x : B). d.enc x (run φ.off d.size (words bs))) (ap g (sym (seen_in φ here)) ∙ sym new)) ep

  -- ---- the first change: a function made g of the part's value, and t is the state with just that changed
  module _ {B : Type 0} {d : Codec B} (φ : Focus (store_codec c) d) (t : State) (b : t.settings ≡ state.settings)
      (else : φ.Else (contents_of state) (contents_of t)) (part : List ℕ) (o e : ℕ) (eo : o ≡ 8 * φ.off) (ee : e ≡ o + 8 * d.size)
      (lp : length part ≡ 8 * d.size) where
    pub effect : (g : B → B) → φ.see (contents_of t) ≡ g (φ.see (contents_of state)) → words part ≡ change d g (words (take (e - o) (drop o bs)))
        → words (take o bs ++ (part ++ drop (e - o) (drop o bs))) ≡ render t (words bs)
    effect =
        later_effect φ (φ.same (contents_of state) (contents_of t) else) state refl refl bs (sym v.sound.still) refl o e eo ee t b else part lp

    -- or a function that writes its new words
    pub written_part : (g : List ℕ → List ℕ) → g (run φ.off d.size (words bs)) ≡ d.enc (φ.see (contents_of t)) (run φ.off d.size (words bs))
        → words part ≡ g (words (take (e - o) (drop o bs)))
        → words (take o bs ++ (part ++ drop (e - o) (drop o bs))) ≡ render t (words bs)
    written_part =
        later_written φ (φ.same (contents_of state) (contents_of t) else) state refl refl bs (sym v.sound.still) refl o e eo ee t b else part lp

  -- ---- a part of the brick at a place
  pub ids_apart : Apart c.places state.ids
  ids_apart = rw v.same (words_apart (words bs) v.sound)

  module _ (p : ℕ) (h : p < c.places) (z : 0 < state.ids p) {B : Type 0} {d : Codec B} (φ : Focus (brick_codec c) d) where
    abbrev place : Focus (store_codec c) (brick_codec c)
    place = brick_focus c p h

    same_brick : OneBrick state state (state.ids p)
    same_brick = record { head = refl; agreed = refl; proxy = refl; bag = refl; ids = refl; others = λ i q. refl }

    pub brick_value : φ.Else (brick_in state (state.ids p)) (brick_in state (state.ids p)) → (o e : ℕ) → o ≡ 8 * (place_at c p + (1 + φ.off))
        → e ≡ o + 8 * d.size
        → d.dec (words (take (e - o) (drop o bs))) ≡ φ.see (brick_in state (state.ids p))
    brick_value x o e eo ee = lent_value (place through φ) (only_brick c state state p h ids_apart z same_brick, x) o e (omega arith) ee

    pub brick_effect : (t : State) → t.settings ≡ state.settings → OneBrick state t (state.ids p)
        → φ.Else (brick_in state (state.ids p)) (brick_in t (t.ids p)) → (g : B → B)
        → φ.see (brick_in t (t.ids p)) ≡ g (φ.see (brick_in state (state.ids p))) → (part : List ℕ) (o e : ℕ) → o ≡ 8 * (place_at c p + (1 + φ.off))
        → e ≡ o + 8 * d.size → length part ≡ 8 * d.size → words part ≡ change d g (words (take (e - o) (drop o bs)))
        → words (take o bs ++ (part ++ drop (e - o) (drop o bs))) ≡ render t (words bs)
    brick_effect t b one x g new part o e eo ee lp ep =
        effect (place through φ) t b (only_brick c state t p h ids_apart z one, x) part o e (omega arith) ee lp g new ep
