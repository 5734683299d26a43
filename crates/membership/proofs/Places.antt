-- What each effect changes of the state: one place.
use mathlib.Core.Path.{◌≡◌, refl, sym, ap, ◌∙◌}
use mathlib.Core.List.{List, [], ◌∷◌}
use mathlib.Core.Bool.{Bool, true, false}
use Prim.Native.Nat.{ℕ, suc, ◌≤◌}
use native.Mathlib.Omega.{arith}
use lib.ListN.{drop, set}
use Rattle.lists.specs.Columns.{upd}
use Rattle.lists.proofs.Columns.{upd_same, upd_other}
use Rattle.rules.specs.declared.settings.Settings.{Settings}
use Rattle.rules.specs.Chunks.{only_saved}
use Rattle.rules.specs.State.{State, set_bricks, set_buckets}
use Rattle.rules.specs.Membership.{blanked_brick, blanked_copies, rise_effect, crash_effect, lose_effect, join_effect}
use Rattle.codec.specs.Codec.{◌&◌}
use Rattle.codec.proofs.Focus.{◌through◌, if_present_none}
use Rattle.layout.specs.Contents.{Brick, Place}
use Rattle.layout.specs.Layout.{brick_codec, place_codec, settings_of, given_at}
use Rattle.layout.specs.Store.{brick_in, contents_of, decode, render}
use Rattle.layout.proofs.Foci.{head_in, given_in}
use Rattle.layout.proofs.Sound.{SoundWords}
use Rattle.layout.proofs.Changes.{again_word}
use Rattle.records.specs.Records.{with_id}
use Rattle.format.specs.First.{new_brick}
use Rattle.lent.proofs.LentPlace.{ChangesPlace, Filled, brick_changes}
use Rattle.membership.specs.Places.{risen, crashed, joined_status}

-- ---- an empty place's words are those past its id, whatever stood there
empty_written : (c : Settings) (w : List ℕ) (x : Place) → x.fst ≡ 0 → (place_codec c).enc x w ≡ 0 ∷ drop 1 w
empty_written c w x e =
    ap (λ (v : List ℕ). x.fst ∷ v) (if_present_none (brick_codec c) x.fst x.snd (drop 1 w) e) ∙ ap (λ (i : ℕ). i ∷ drop 1 w) e

-- ---- a blank brick under an id leaves the others
abbrev blanked : State → ℕ → Bool → State
blanked s id there = set_buckets (set_bricks s (blanked_brick s.bricks id there)) (λ g. blanked_copies id (s.bucket g))

blank_others : (s : State) (id : ℕ) (there : Bool) (i : ℕ) → (i ≡ id → ⊥) → brick_in (blanked s id there) i ≡ brick_in s i
blank_others s id there i n = λ k. record {
  present = upd_other s.bricks.present id i there n k;
  status = record {
    up = upd_other s.bricks.up id i there n k;
    member = upd_other s.bricks.member id i false n k;
    began = upd_other s.bricks.began id i false n k;
    next = upd_other s.bricks.next id i 0 n k;
    ceiling = upd_other s.bricks.ceiling id i 0 n k;
  };
  buffer = upd_other s.bricks.buffer id i [] n k;
  copies = λ g. record { memory = upd_other (s.bucket g).memory id i [] n k; disk = upd_other (s.bucket g).disk id i [] n k };
  log = upd_other s.bricks.log id i [] n k;
}

-- at the other places, with another id at place p
blank_places : (s : State) (p new id : ℕ) (there : Bool) (q : ℕ) → (q ≡ p → ⊥) → (s.ids q ≡ id → ⊥)
    → ◌≡◌ {A = Place} (s.ids q & brick_in s (s.ids q)) (upd s.ids p new q & brick_in (blanked s id there) (upd s.ids p new q))
blank_places s p new id there q x n =
    ap (λ (b : Brick). s.ids q & b) (sym (blank_others s id there (s.ids q) n))
    ∙ ap (λ (i : ℕ). i & brick_in (blanked s id there) i) (sym (upd_other s.ids p q new x))

module _ (s : State) (p : ℕ) (at : Filled s p) where
  abbrev id : ℕ
  id = s.ids p

  pub rise_changes : ChangesPlace s (rise_effect s id) p risen
  unfolding rise_effect
  rise_changes =
      brick_changes s (rise_effect s id) p risen at refl
      (record {
        head = refl;
        agreed = refl;
        proxy = refl;
        bag = refl;
        ids = refl;
        others = λ i n. rw (upd_other s.bricks.up id i true n);
      })
      (rw (upd_same s.bricks.up id true))

  -- ---- crash
  crash_others : (i : ℕ) → (i ≡ id → ⊥) → brick_in (crash_effect s id) i ≡ brick_in s i
  unfolding crash_effect
  crash_others i n = λ k. record {
    present = s.bricks.present i;
    status = record {
      up = upd_other s.bricks.up id i false n k;
      member = upd_other s.bricks.member id i false n k;
      began = s.bricks.began i;
      next = upd_other s.bricks.next id i (s.bricks.ceiling id) n k;
      ceiling = s.bricks.ceiling i;
    };
    buffer = upd_other s.bricks.buffer id i [] n k;
    copies = λ g. record {
      memory = upd_other (s.bucket g).memory id i ((s.bucket g).disk id) n k;
      disk = (s.bucket g).disk i;
    };
    log = upd_other s.bricks.log id i (only_saved (s.bricks.log id)) n k;
  }

  crash_there : (contents_of (crash_effect s id)).place p ≡ crashed ((contents_of s).place p)
  unfolding crash_effect
  crash_there = λ k. id & record {
    present = s.bricks.present id;
    status = record {
      up = upd_same s.bricks.up id false k;
      member = upd_same s.bricks.member id false k;
      began = s.bricks.began id;
      next = upd_same s.bricks.next id (s.bricks.ceiling id) k;
      ceiling = s.bricks.ceiling id;
    };
    buffer = upd_same s.bricks.buffer id [] k;
    copies = λ g. record {
      memory = upd_same (s.bucket g).memory id ((s.bucket g).disk id) k;
      disk = (s.bucket g).disk id;
    };
    log = upd_same s.bricks.log id (only_saved (s.bricks.log id)) k;
  }

  pub crash_changes : ChangesPlace s (crash_effect s id) p crashed
  unfolding crash_effect
  crash_changes =
      brick_changes s (crash_effect s id) p crashed at refl
      (record { head = refl; agreed = refl; proxy = refl; bag = refl; ids = refl; others = λ i n. sym (crash_others i n) })
      crash_there

  -- ---- lose
  pub lose_changes : ChangesPlace s (lose_effect s p id) p (with_id 0)
  unfolding lose_effect
  lose_changes = record {
    settings = refl;
    head = refl;
    agreed = refl;
    proxy = refl;
    bag = refl;
    others = λ q l x. blank_places s p 0 id false q x (λ e. x (at.apart q p l at.inside e (omega (arith, at.filled, e))));
    place = λ c w. empty_written c w ((contents_of (lose_effect s p id)).place p) (upd_same s.ids p 0)
        ∙ sym (empty_written c w (with_id 0 ((contents_of s).place p)) refl);
  }

-- ---- join: a blank brick at an empty place, and then its id counts as given
module _ (s : State) (p : ℕ) where
  abbrev seated : State
  seated = record {
    settings = s.settings;
    ids = upd s.ids p (suc s.given);
    given = s.given;
    view = s.view;
    started = s.started;
    bricks = blanked_brick s.bricks (suc s.given) true;
    bucket = λ g. blanked_copies (suc s.given) (s.bucket g);
    bag = s.bag;
    items = s.items;
    known = s.known;
  }

  joined : (id : ℕ) → brick_in (blanked s id true) id ≡ new_brick joined_status
  joined id = λ k. record {
    present = upd_same s.bricks.present id true k;
    status = record {
      up = upd_same s.bricks.up id true k;
      member = upd_same s.bricks.member id false k;
      began = upd_same s.bricks.began id false k;
      next = upd_same s.bricks.next id 0 k;
      ceiling = upd_same s.bricks.ceiling id 0 k;
    };
    buffer = upd_same s.bricks.buffer id [] k;
    copies = λ g. record { memory = upd_same (s.bucket g).memory id [] k; disk = upd_same (s.bucket g).disk id [] k };
    log = upd_same s.bricks.log id [] k;
  }

  seated_there : (contents_of seated).place p ≡ suc s.given & new_brick joined_status
  seated_there =
      ap (λ (i : ℕ). i & brick_in seated i) (upd_same s.ids p (suc s.given))
      ∙ ap (λ (b : Brick). suc s.given & b) (joined (suc s.given))

  -- ids were given
  pub seat_changes : ((q : ℕ) → s.ids q ≤ s.given) → ChangesPlace s seated p (λ _. suc s.given & new_brick joined_status)
  seat_changes born = record {
    settings = refl;
    head = refl;
    agreed = refl;
    proxy = refl;
    bag = refl;
    others = λ q l x. blank_places s p (suc s.given) (suc s.given) true q x (λ e. omega (arith, born q, e));
    place = λ c w. ap (λ (v : Place). (place_codec c).enc v w) seated_there;
  }

-- the highest id given, last
pub join_changes : (ws : List ℕ) → SoundWords ws → (p : ℕ) (v : List ℕ) (id : ℕ) → v ≡ render (seated (decode ws) p) ws → id ≡ suc (decode ws).given
    → set v given_at id ≡ render (join_effect (decode ws) p) ws
unfolding join_effect
join_changes ws sd p v id e i =
    rw (e, i) (sym (again_word ws sd (head_in (settings_of ws) through given_in) (seated (decode ws) p) (join_effect (decode ws) p) refl refl
    (refl, (((refl, refl), refl), refl))))
