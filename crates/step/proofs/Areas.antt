-- What a call does with its areas: it keeps the length, only get looks at them, and only an accepted get fills one.
use mathlib.Core.Path.{◌≡◌, refl, sym, ap, ◌∙◌}
use mathlib.Core.List.{List}
use mathlib.Core.Bool.{false}
use Prim.Native.Nat.{ℕ}
use native.Mathlib.Omega.{arith}
use lib.Dec.{eqb}
use lib.ListN.{length}
use borrow.Author.Tests.{eqb-true, ne_eqb}
use Rattle.lists.specs.Tests.{◌and◌}
use Rattle.lists.proofs.Tests.{by, and_l, and_r}
use Rattle.words.specs.Words.{words}
use Rattle.rules.specs.declared.settings.Settings.{Settings}
use Rattle.rules.specs.Event.{Event}
use Rattle.rules.specs.Call.{Call, get_kind, lends}
use Rattle.rules.specs.Question.{first_no}
use Rattle.rules.specs.Step.{Outcome as Result, rule, step}
use Rattle.rules.proofs.Call.{other_called, get_called, get_unlent}
use Rattle.layout.specs.Store.{decode, decode_bytes, sound_bytes}
use Rattle.lent.specs.Stores.{StoreOf}
use Rattle.lent.proofs.Stores as stores
use Rattle.calls.specs.Outcome.{Outcome, call_with, filled, performed, event_on, outcome}
use Rattle.calls.proofs.Performed.{sound_store}
use Rattle.reads.proofs.Outcomes.{size_is, said_size}

module _ (c : Settings) (bs : List ℕ) (v : StoreOf c bs) (call : Call) where
  abbrev result : Result
  result = step (decode_bytes bs) (event_on bs call)

  whole : outcome bs call ≡ performed bs call result
  unfolding outcome
  whole = rw (sound_store bs (stores.sound_store c bs v)) refl

  -- all but an accepted get leave it
  pub area_left : (eqb call.kind get_kind and eqb (outcome bs call).code 0) ≡ false → (outcome bs call).area ≡ call.area
  unfolding filled
  area_left n =
      let m : (eqb call.kind get_kind and eqb result.code 0) ≡ false = ap (λ (o : Outcome). eqb call.kind get_kind and eqb o.code 0) (sym whole)
      ∙ n in
      ap (λ (o : Outcome). o.area) whole ∙ rw m refl

  unknown_code : (step (decode (words bs)) Event.unknown).code ≡ 3
  unfolding step rule first_no
  unknown_code = refl

  filled_length : call.kind ≡ get_kind → result.code ≡ 0 → length result.said.bytes ≡ length call.area
  unfolding decode_bytes
  filled_length g z =
      let size = (decode (words bs)).settings.size in
      by (lends size call)
      (λ y. let e = get_called size call g y in
      let code : (step (decode (words bs)) (Event.get call.a call.b)).code ≡ 0 = rw e at z in
      rw e (said_size c bs v call.a call.b code ∙ size_is c bs v ∙ sym (eqb-true (length call.area) size (and_r _ _ y))))
      (λ n. let code : (step (decode (words bs)) Event.unknown).code ≡ 0 = rw (get_unlent size call g n) at z in absurd (omega (arith, unknown_code, code)))

  pub area_length : length (outcome bs call).area ≡ length call.area
  unfolding filled
  area_length =
      ap (λ (o : Outcome). length o.area) whole
      ∙ by (eqb call.kind get_kind and eqb result.code 0)
      (λ y. rw y (filled_length (eqb-true call.kind get_kind (and_l _ _ y)) (eqb-true result.code 0 (and_r _ _ y)))) (λ n. rw n refl)

-- ---- a kind other than get looks at no area
abbrev pub over : Outcome → List ℕ → Outcome
over o area = record { code = o.code; key = o.key; area = area; store = o.store }

pub other_areas : (bs : List ℕ) (kind a b c : ℕ) (bytes zero_block area zero_block' area' : List ℕ) → (kind ≡ get_kind → ⊥)
    → outcome bs (call_with kind a b c bytes zero_block area) ≡ over (outcome bs (call_with kind a b c bytes zero_block' area')) area
unfolding outcome filled ◌and◌
other_areas bs kind a b c bytes zero_block area zero_block' area' u =
    let size = (decode_bytes bs).settings.size in
    let n = ne_eqb kind get_kind u in
    by (sound_bytes bs)
    (λ y. rw (y, other_called size (call_with kind a b c bytes zero_block area) u, other_called size (call_with kind a b c bytes zero_block' area') u, n) refl)
    (λ f. rw f refl)
