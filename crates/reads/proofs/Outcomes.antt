-- What get's questions say of its outcome, and of the call that fills an area.
use mathlib.Core.Path.{◌≡◌, refl, sym, ap, subst, ◌∙◌}
use mathlib.Core.List.{List, []}
use mathlib.Core.Bool.{true, false}
use Prim.Native.Nat.{ℕ, suc}
use lib.Dec.{eqb}
use lib.ListN.{length}
use borrow.Author.Tests.{ne_eqb}
use Rattle.lists.specs.Tests.{◌and◌}
use Rattle.std.specs.Prelude.{Result, Ok, Err}
use Rattle.words.specs.Words.{words}
use Rattle.rules.specs.declared.refusal.Refusal.{Refusal}
use Rattle.rules.specs.declared.refusal.Refusal.TheVariants.{BadInput}
use Rattle.rules.specs.Refusals.{number}
use Rattle.rules.proofs.Refusals.{from_one, never_zero}
use Rattle.rules.specs.declared.settings.Settings.{Settings}
use Rattle.rules.specs.Event.{Event}
use Rattle.rules.specs.Call.{is_zero_block}
use Rattle.rules.specs.State.{State}
use Rattle.rules.specs.Question.{first_no}
use Rattle.rules.specs.Reads.{mapped, get_asks, get_bytes}
use Rattle.rules.specs.Step.{rule, step}
use Rattle.rules.proofs.Step.{code_is}
use Rattle.layout.specs.Store.{decode}
use Rattle.lent.specs.Stores.{StoreOf}
use Rattle.lent.proofs.Stores.{settings_are}
use Rattle.reads.specs.Get.{Gets, Fills, GetsInto}
use Rattle.reads.proofs.Contents.{bytes_size}

-- the size that the code has read
pub size_is : (c : Settings) (bs : List ℕ) → StoreOf c bs → c.size ≡ (decode (words bs)).settings.size
size_is c bs v = ap (λ (x : Settings). x.size) (sym (settings_are c bs v))

module _ (s : State) (p b : ℕ) where
  -- ---- the part
  pub refused : (r : Refusal) → number r ≡ first_no (get_asks s p b) → Gets s p b (number r) 0 []
  unfolding step rule
  refused r e =
      let k = from_one r in
      let n : first_no (get_asks s p b) ≡ suc k.0 = sym e ∙ k.1 in
      record { number = rw n k.1; found = rw n refl; same = rw n refl }

  pub accepted : first_no (get_asks s p b) ≡ 0 → {k : ℕ} → k ≡ mapped s b → {bytes : List ℕ} → bytes ≡ get_bytes s b → Gets s p b 0 k bytes
  unfolding step rule
  accepted e m q = record { number = rw e refl; found = rw e m; same = rw e q }

  -- ---- the area that it fills
  pub fills_refused : (r : Refusal) {bytes : List ℕ} → Gets s p b (number r) 0 bytes → (area : List ℕ) → Fills s (Event.get p b) area (Err r) area
  fills_refused r g area = record { code = g.number; key = g.found; fills = rw (← g.number, ne_eqb (number r) 0 (never_zero r)) refl }

  pub fills_accepted : {k : ℕ} {bytes : List ℕ} → Gets s p b 0 k bytes → (area after : List ℕ) → after ≡ bytes
      → Fills s (Event.get p b) area (Ok k) after
  fills_accepted g area after e = record { code = g.number; key = g.found; fills = rw (← g.number) (e ∙ g.same) }

  -- ---- the call that lends a block of zeros beside it
  module _ (zero_block area : List ℕ) where
    pub not_lent : (is_zero_block s.settings.size zero_block and eqb (length area) s.settings.size) ≡ false → GetsInto s zero_block area p b (Err BadInput) area
    unfolding step rule first_no
    not_lent n = record { code = rw n refl; key = rw n refl; fills = rw n refl }

    pub lent : (is_zero_block s.settings.size zero_block and eqb (length area) s.settings.size) ≡ true → {r : Result ℕ Refusal} {after : List ℕ}
        → Fills s (Event.get p b) area r after → GetsInto s zero_block area p b r after
    lent y {r} {after} f = subst (λ (e : Event). Fills s e area r after) (sym (rw y refl)) f

-- an accepted get answers a block's bytes
pub said_size : (c : Settings) (bs : List ℕ) → StoreOf c bs → (p b : ℕ) → (step (decode (words bs)) (Event.get p b)).code ≡ 0
    → length (step (decode (words bs)) (Event.get p b)).said.bytes ≡ c.size
unfolding rule
said_size c bs v p b z =
    let s = decode (words bs) in
    let e : first_no (get_asks s p b) ≡ 0 = sym (code_is s (Event.get p b)) ∙ z in
    ap length (sym (accepted s p b e refl refl).same) ∙ bytes_size c bs v p b e
