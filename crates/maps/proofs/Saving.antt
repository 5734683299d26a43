-- savemap: what it does to a place's words, and that the rules' effect is a change of that place.
use mathlib.Core.Path.{◌≡◌, refl, sym, ap, fun_ext}
use mathlib.Core.List.{List, ◌++◌}
use mathlib.Core.Bool.{true}
use Prim.Native.Nat.{ℕ, ◌*◌, ◌-◌}
use native.Mathlib.Omega.{arith}
use lib.ListN.{length, take, drop}
use Rattle.lists.proofs.Columns.{upd_same, upd_other}
use Rattle.words.specs.Words.{words}
use Rattle.rules.specs.declared.settings.Settings.{Settings}
use Rattle.rules.specs.Entries.{Entry}
use Rattle.rules.specs.State.{State}
use Rattle.rules.specs.Maps.{savemap_effect}
use Rattle.codec.specs.Codec.{change, ◌&◌}
use Rattle.layout.specs.Contents.{Copies, Place}
use Rattle.layout.specs.Layout.{all_copies_codec, place_codec, all_copies_at, log_at}
use Rattle.layout.specs.Store.{brick_in}
use Rattle.layout.proofs.Changes.{OneBrick}
use Rattle.lent.specs.Parts.{AllCopiesFit, all_matched}
use Rattle.lent.specs.Places.{HoldsBrick}
use Rattle.lent.proofs.LentPlace.{ChangesPlace, Filled, brick_changes}
use Rattle.lent.proofs.PlaceSteps.{all_copies_of, step_changed, copies_fit}
use Rattle.mappings.proofs.Entering.{set_brick_copies}
use Rattle.maps.specs.Saved.{saved}

-- ---- the rules' effect changes the copies of one brick
module _ (s : State) (id : ℕ) where
  pub saved_one : OneBrick s (savemap_effect s id) id
  unfolding savemap_effect
  saved_one = record {
    head = refl;
    agreed = refl;
    proxy = refl;
    bag = refl;
    ids = refl;
    others = λ i q. ap (set_brick_copies (brick_in s i)) (fun_ext (λ g. ap (λ (l : List Entry). record { memory = (s.bucket g).memory i; disk = l })
        (sym (upd_other (s.bucket g).disk id i ((s.bucket g).memory id) q))));
  }

  saved_copies : (brick_in (savemap_effect s id) id).copies ≡ all_matched true (brick_in s id).copies
  unfolding savemap_effect
  saved_copies = fun_ext (λ g. ap (λ (l : List Entry). record { memory = (s.bucket g).memory id; disk = l }) (upd_same (s.bucket g).disk id ((s.bucket g).memory id)))

pub saved_place : (s : State) (p : ℕ) → Filled s p → ChangesPlace s (savemap_effect s (s.ids p)) p saved
unfolding savemap_effect
saved_place s p at =
    brick_changes s (savemap_effect s (s.ids p)) p saved at refl (saved_one s (s.ids p))
    (ap (λ (f : ℕ → Copies). s.ids p & set_brick_copies (brick_in s (s.ids p)) f) (saved_copies s (s.ids p)))

-- ---- the copies of a place, lent: bytes o to e of s
module _ (c : Settings) (s : List ℕ) (k : HoldsBrick c (words s) (length s)) (o e : ℕ) (eo : o ≡ 8 * all_copies_at) (ee : e ≡ 8 * log_at c) where
  abbrev old : Place
  old = (place_codec c).dec (words s)

  pub copies_lent : AllCopiesFit c (words (take (e - o) (drop o s))) (length (take (e - o) (drop o s)))
  copies_lent = copies_fit c s k old s (sym k.clean) refl o e k.filled refl eo ee

  pub copies_saved : (t : List ℕ) → length t ≡ length (take (e - o) (drop o s))
      → words t ≡ change (all_copies_codec c) (all_matched true) (words (take (e - o) (drop o s)))
      → words (take o s ++ (t ++ drop (e - o) (drop o s))) ≡ change (place_codec c) saved (words s)
  copies_saved t l q =
      let there : (all_copies_of c).Else old old = ((refl, k.filled), ((refl, refl), refl)) in
      step_changed c s k old s (sym k.clean) refl o e (all_copies_of c) there refl eo (omega arith) (saved old) there (all_matched true) refl t l q
