-- One event of a list: the outcome of its call, its block of the area, and its two words of the answers.
use mathlib.Core.Path.{◌≡◌, refl, sym, ap, subst, ◌∙◌}
use mathlib.Core.List.{List, [], ◌++◌}
use mathlib.Core.Bool.{true, false}
use Prim.Native.Nat.{ℕ, ◌+◌, ◌*◌, ◌/◌, ◌≤◌}
use native.Mathlib.Numerals.{add-one}
use native.Mathlib.Omega.{arith}
use lib.Dec.{leb}
use lib.ListN.{length, set}
use borrow.Author.Tests.{eq-eqb, ne_eqb}
use Rattle.std.specs.Prelude.{Result, Err}
use Rattle.rules.specs.declared.refusal.Refusal.{Refusal}
use Rattle.rules.specs.declared.refusal.Refusal.TheVariants.{BadInput}
use Rattle.lists.specs.Runs.{Below}
use Rattle.lists.proofs.Tests.{both, no_first, no_second}
use Rattle.words.specs.Words.{words}
use Rattle.rules.specs.declared.settings.Settings.{Settings}
use Rattle.rules.specs.Event.{Event}
use Rattle.rules.specs.Call.{Call, get_kind, is_zero_block}
use Rattle.rules.specs.Reads.{zeros}
use Rattle.layout.specs.Store.{decode, decode_bytes, sound_bytes}
use Rattle.rules.specs.Refusals.{code_of}
use Rattle.lent.specs.Performs.{key_of}
use Rattle.lent.specs.Stores.{StoreOf}
use Rattle.lent.proofs.Stores as stores
use Rattle.calls.specs.Outcome.{Outcome, call_with, outcome, outcome_of}
use Rattle.calls.proofs.Calls.{Kept, call_keeps}
use Rattle.reads.specs.Get.{Fills}
use Rattle.reads.proofs.Outcomes.{size_is, not_lent, lent as lent_both}
use Rattle.reads.proofs.Zeros.{zeros_test}
use Rattle.step.proofs.Areas.{over, other_areas}
use Rattle.step.proofs.Outcomes.{get_steps}
use Rattle.batch.specs.Batch.{block_at, with_block, Batch, Lent, lent, call_at, begins, turn, turns, count, is_batch, ran, batch_outcome, StepsAt}
use Rattle.batch.proofs.Blocks.{block_none, block_size, with_same, nothing}

-- the outcome of a call, answered with the area that it leaves
pub steps_at : (size at : ℕ) (call : Call) (store area : List ℕ) (r : Result ℕ Refusal) (after part area_after : List ℕ) → outcome_of r part after ≡ outcome store call
    → area_after ≡ with_block size at part area → StepsAt size at call store area r after area_after
steps_at size at call store area r after part area_after e f =
    let q : part ≡ (outcome store call).area = ap (λ (o : Outcome). o.area) e in
    record {
      same = subst (λ (p : List ℕ). outcome_of r p after ≡ outcome store call) q e;
      fills = f ∙ ap (λ (p : List ℕ). with_block size at p area) q;
    }

-- ---- one event: any kind but get, and get
module _ (c : Settings) (bs : List ℕ) (v : StoreOf c bs) (kind a b d at : ℕ) (bytes area : List ℕ) where
  abbrev call : Call
  call = call_with kind a b d bytes (zeros c.size) (block_at c.size at area)

  pub other_at : (kind ≡ get_kind → ⊥) → (r : Result ℕ Refusal) (after part got : List ℕ) → length part ≡ 0 → got ≡ bytes
      → outcome_of r part after ≡ outcome bs (call_with kind a b d got [] [])
      → StepsAt c.size at call bs area r after (part ++ area)
  other_at u r after part got z q e =
      steps_at c.size at call bs area r after (block_at c.size at area) (part ++ area)
      (ap (λ (o : Outcome). over o (block_at c.size at area)) (e ∙ ap (λ (x : List ℕ). outcome bs (call_with kind a b d x [] [])) q)
      ∙ sym (other_areas bs kind a b d bytes (zeros c.size) _ [] [] u))
      (ap (λ (p : List ℕ). p ++ area) (nothing part z) ∙ with_same c.size at area)

  module _ (b256 : Below 256 bs) (g : kind ≡ get_kind) where
    pub get_nowhere : leb (at + c.size) (length area) ≡ false → StepsAt c.size at call bs area (Err BadInput) bs area
    unfolding decode_bytes
    get_nowhere n =
        let size = size_is c bs v in
        steps_at c.size at call bs area (Err BadInput) bs (block_at c.size at area) area
        (get_steps bs (stores.sound_store c bs v) b256 call g (Err BadInput) _
        (not_lent (decode (words bs)) a b (zeros c.size) (block_at c.size at area)
        (no_second _ _ (ne_eqb (length (block_at c.size at area)) (decode (words bs)).settings.size
        (λ q. omega (arith, ap length (block_none c.size at area n), size, v.limits.size_from))))))
        (with_same c.size at area)

    pub get_there : leb (at + c.size) (length area) ≡ true → (r : Result ℕ Refusal) (got part area_after : List ℕ) → got ≡ block_at c.size at area
        → Fills (decode (words bs)) (Event.get a b) got r part → area_after ≡ with_block c.size at part area
        → StepsAt c.size at call bs area r bs area_after
    unfolding decode_bytes
    get_there y r got part area_after q f w =
        let size = size_is c bs v in
        steps_at c.size at call bs area r bs part area_after
        (get_steps bs (stores.sound_store c bs v) b256 call g r part
        (lent_both (decode (words bs)) a b (zeros c.size) (block_at c.size at area)
        (both _ _ (ap (λ (n : ℕ). is_zero_block n (zeros c.size)) (sym size) ∙ zeros_test c.size) (eq-eqb _ _ (block_size c.size at area y ∙ size)))
        (subst (λ (x : List ℕ). Fills (decode (words bs)) (Event.get a b) x r part) q f)))
        w

-- ---- the turn
pub turned : (size : ℕ) (batch : Batch) (i : ℕ) (l : Lent) (r : Result ℕ Refusal) (after area : List ℕ)
    → StepsAt size (begins batch i) (call_at size batch i l.area) l.store l.area r after area
    → (answers : List ℕ) → answers ≡ set (set l.answers (2 * i) (code_of r)) (2 * i + 1) (key_of r)
    → lent after area answers ≡ turn size batch i l
unfolding turn
turned size batch i l r after area p answers e =
    let o = outcome l.store (call_at size batch i l.area) in
    let c : code_of r ≡ o.code = ap (λ (x : Outcome). x.code) p.same in
    let k : key_of r ≡ o.key = ap (λ (x : Outcome). x.key) p.same in
    let s : after ≡ o.store = ap (λ (x : Outcome). x.store) p.same in
    rw (e, c, k, s, p.fills) refl

pub turns_more : (size : ℕ) (batch : Batch) (i : ℕ) (l m k : Lent) → k ≡ turn size batch i m → m ≡ turns size batch i l → k ≡ turns size batch (i + 1) l
unfolding turns
turns_more size batch i l m k e h = rw add-one (e ∙ ap (turn size batch i) h)

-- ---- a turn keeps the store sound, and its settings
pub turn_keeps : (size : ℕ) (batch : Batch) (i : ℕ) (l k : Lent) → k ≡ turn size batch i l → Below 256 l.store → Kept l.store k.store
unfolding turn
turn_keeps size batch i l k e b = subst (λ (m : Lent). Kept l.store m.store) (sym e) (call_keeps l.store b (call_at size batch i l.area))

-- while they run: after i of them
pub record Running (c : Settings) (n : ℕ) (batch : Batch) (start now : Lent) (i : ℕ) : Type 0 where
  pub within : i ≤ n
  pub store_length : length now.store ≡ length start.store
  pub area_length : length now.area ≡ length start.area
  pub answers_length : length now.answers ≡ length start.answers
  pub bytes : Below 256 now.store
  pub held : StoreOf c now.store
  pub state : now ≡ turns c.size batch i start

-- ---- the call: not sound, no batch, or each event in turn
module _ (batch : Batch) (l : Lent) where
  pub ran_unsound : sound_bytes l.store ≡ false → batch_outcome batch l ≡ ran 2 l
  unfolding batch_outcome
  ran_unsound n = rw n refl

  module _ (y : sound_bytes l.store ≡ true) where
    pub ran_none : is_batch batch l ≡ false → batch_outcome batch l ≡ ran 3 l
    unfolding batch_outcome
    ran_none n = rw (y, n) refl

    pub ran_all : is_batch batch l ≡ true → batch_outcome batch l ≡ ran 0 (turns (decode_bytes l.store).settings.size batch (count batch) l)
    unfolding batch_outcome
    ran_all b = rw (y, b) refl

    -- as the code finds it
    pub odd_runs : (length batch.events ≡ 5 * (length batch.events / 5) → ⊥) → ran 3 l ≡ batch_outcome batch l
    unfolding is_batch count
    odd_runs u = sym (ran_none (no_first _ _ (ne_eqb _ _ u)))

    pub short_runs : (length l.answers ≡ 2 * (length batch.events / 5) → ⊥) → ran 3 l ≡ batch_outcome batch l
    unfolding is_batch count
    short_runs u = sym (ran_none (no_second _ _ (ne_eqb _ _ u)))

    pub all_runs : (size : ℕ) → size ≡ (decode_bytes l.store).settings.size → length batch.events ≡ 5 * (length batch.events / 5)
        → length l.answers ≡ 2 * (length batch.events / 5) → (k : Lent) → k ≡ turns size batch (length batch.events / 5) l
        → ran 0 k ≡ batch_outcome batch l
    unfolding is_batch count
    all_runs size q e f k h =
        ap (ran 0) (h ∙ ap (λ (n : ℕ). turns n batch (length batch.events / 5) l) q) ∙ sym (ran_all (both _ _ (eq-eqb _ _ e) (eq-eqb _ _ f)))
