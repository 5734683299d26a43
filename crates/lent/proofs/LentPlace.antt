-- A place's part, lent to be written: what is read from it, and what a change of it leaves of the store.
use mathlib.Core.Path.{◌≡◌, sym, ap, ◌∙◌}
use mathlib.Core.List.{List, ◌++◌}
use Prim.Native.Nat.{ℕ, ◌*◌, ◌-◌, ◌≤◌, ◌<◌}
use native.Mathlib.Omega.{arith}
use lib.ListN.{length, take, drop}
use Rattle.lists.proofs.Runs.{run_length}
use Rattle.words.specs.Words.{words}
use Rattle.rules.specs.declared.settings.Settings.{Settings}
use Rattle.rules.specs.State.{State}
use Rattle.codec.specs.Codec.{change}
use Rattle.layout.specs.Places.{Apart}
use Rattle.layout.specs.Contents.{Place}
use Rattle.layout.specs.Layout.{place_codec, place_words, place_at, place_part}
use Rattle.layout.specs.Store.{contents_of, decode, render}
use Rattle.layout.proofs.Foci.{place_focus}
use Rattle.layout.proofs.Sound.{sound_apart}
use Rattle.layout.proofs.Lent.{lent, lent_length}
use Rattle.layout.proofs.Changes.{OneBrick, only_brick}
use Rattle.lent.specs.Stores.{StoreOf}
use Rattle.lent.specs.Places.{PlacePart, SpanOf, HoldsBrick}
use Rattle.lent.proofs.Stores.{settings_are}
use Rattle.lent.proofs.Effects.{seen_in, written_part}
use Rattle.lent.proofs.Places.{place_is}
use Rattle.lent.proofs.Parts.{holds_brick}

-- ---- state t is state s with place p changed, whose words are then those of f
pub record ChangesPlace (s t : State) (p : ℕ) (f : Place → Place) : Type 0 where
  pub settings : t.settings ≡ s.settings
  pub head : (contents_of s).head ≡ (contents_of t).head
  pub agreed : (contents_of s).agreed ≡ (contents_of t).agreed
  pub proxy : (contents_of s).proxy ≡ (contents_of t).proxy
  pub bag : s.bag ≡ t.bag
  pub others : (q : ℕ) → q < s.settings.places → (q ≡ p → ⊥) → (contents_of s).place q ≡ (contents_of t).place q
  pub place : (c : Settings) (w : List ℕ) → (place_codec c).enc ((contents_of t).place p) w ≡ (place_codec c).enc (f ((contents_of s).place p)) w

-- a brick stands at place p, and its id at no other
pub record Filled (s : State) (p : ℕ) : Type 0 where
  pub inside : p < s.settings.places
  pub filled : 0 < s.ids p
  pub apart : Apart s.settings.places s.ids

-- a change of that brick
pub brick_changes : (s t : State) (p : ℕ) (f : Place → Place) → Filled s p
    → t.settings ≡ s.settings → OneBrick s t (s.ids p) → (contents_of t).place p ≡ f ((contents_of s).place p) → ChangesPlace s t p f
brick_changes s t p f at same one e =
    let else = only_brick s.settings s t p at.inside at.apart at.filled one in
    record {
      settings = same;
      head = one.head;
      agreed = one.agreed;
      proxy = one.proxy;
      bag = one.bag;
      others = else.0.1;
      place = λ c w. ap (λ (v : Place). (place_codec c).enc v w) e;
    }

-- ---- the bytes from `from` to `to` of a sound store are place p
pub record LentPlace (bs : List ℕ) (c : Settings) (p from to : ℕ) : Type 0 where
  pub store : StoreOf c bs
  pub inside : p < c.places
  pub span : SpanOf c p from to

pub lent_place : {bs : List ℕ} {c : Settings} {p from to : ℕ} → StoreOf c bs → SpanOf c p from to → p < c.places
    → LentPlace bs c p from to
lent_place so sp h = record { store = so; inside = h; span = sp }

module _ {bs : List ℕ} {c : Settings} {p from to : ℕ} (l : LentPlace bs c p from to) where
  abbrev pub part : List ℕ
  part = take (to - from) (drop from bs)

  pub part_inside : to ≤ length bs
  part_inside = omega (arith, l.store.size, l.span.inside)

  pub part_length : length part ≡ 8 * place_words c
  part_length = run_length from (to - from) bs (omega (arith, part_inside, l.span.size)) ∙ omega (arith, l.span.size)

  place_lent : PlacePart c p bs part
  place_lent = record {
    size = part_length;
    same = lent bs from to (place_at c p) (place_words c) l.span.start l.span.size (omega (arith, part_inside, l.span.size, l.span.start));
  }

  -- what the part says
  pub part_read : (place_codec c).dec (words part) ≡ (contents_of (decode (words bs))).place p
  part_read = sym (place_is c bs part l.store p l.inside place_lent)

  module _ (o : 0 < (decode (words bs)).ids p) where
    pub part_filled : Filled (decode (words bs)) p
    part_filled = record {
      inside = rw (settings_are c bs l.store) l.inside;
      filled = o;
      apart = sound_apart (decode (words bs)) l.store.sound.state;
    }

    pub part_brick : HoldsBrick c (words part) (length part)
    part_brick = holds_brick c bs part l.store p l.inside place_lent o

  -- new bytes come back: as many, and with the place changed by f
  pub back_length : (new : List ℕ) → length new ≡ length part → length (take from bs ++ (new ++ drop (to - from) (drop from bs))) ≡ length bs
  back_length new same =
      lent_length bs new from (to - from) (omega (arith, part_inside, l.span.size)) (same ∙ part_length ∙ omega (arith, l.span.size))

  pub part_changed : {t : State} {f : Place → Place} (new : List ℕ) → ChangesPlace (decode (words bs)) t p f
      → length new ≡ length part → words new ≡ change (place_codec c) f (words part)
      → words (take from bs ++ (new ++ drop (to - from) (drop from bs))) ≡ render t (words bs)
  part_changed {t} {f} new k same w =
      let φ = place_focus c p l.inside in
      let old = place_part c p (words bs) in
      let else : φ.Else (contents_of (decode (words bs))) (contents_of t) =
      ((((k.head, k.agreed), k.proxy), k.bag), λ q h x. k.others q (rw (settings_are c bs l.store) h) x) in
      written_part c bs l.store φ t k.settings else new from to l.span.start l.span.size (same ∙ part_length) (change (place_codec c) f)
      (ap (λ (v : Place). (place_codec c).enc (f v) old) (sym (seen_in c bs l.store φ (φ.same (contents_of (decode (words bs))) (contents_of t) else)))
      ∙ sym (k.place c old)) w
