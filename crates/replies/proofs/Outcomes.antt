-- The answer is written from the outcome of the rules' step: that of a get from the part that it is handed, that of any other kind without bytes.
use mathlib.Core.Path.{◌≡◌, refl, sym, ap, subst, ◌∙◌}
use mathlib.Core.List.{List, [], ◌∷◌, ◌++◌}
use Prim.Native.Nat.{ℕ, zero, suc, ◌≤◌}
use native.Mathlib.Omega.{arith}
use lib.ListN.{length, take, length-replicate}
use lib.Seq.{take_all}
use borrow.Author.Tests.{ne_eqb}
use Rattle.std.specs.Prelude.{Result, Ok, Err}
use Rattle.rules.specs.declared.refusal.Refusal.{Refusal}
use Rattle.rules.specs.Refusals.{number as number_of, code_of}
use Rattle.lists.specs.Runs.{Below}
use Rattle.lists.specs.Tests.{◌and◌}
use Rattle.lists.proofs.Tests.{by_eq, no_first}
use Rattle.area.specs.Area.{onto}
use Rattle.rules.specs.declared.settings.Settings.{Settings}
use Rattle.rules.specs.Call.{Call, get_kind}
use Rattle.rules.specs.Event.{Event, event_from}
use Rattle.rules.specs.Reads.{zeros}
use Rattle.rules.specs.Step.{Outcome as Stepped, step}
use Rattle.rules.proofs.Call.{other_called}
use Rattle.rules.proofs.Event.{kinds_open}
use Rattle.layout.specs.Store.{decode_bytes, render_bytes}
use Rattle.lent.specs.Performs.{key_of}
use Rattle.lent.specs.Stores.{StoreOf}
use Rattle.lent.proofs.Stores as stores
use Rattle.calls.specs.Outcome.{Outcome, call_with, performed, outcome, outcome_of}
use Rattle.calls.proofs.Calls.{get_still}
use Rattle.calls.proofs.Performed.{sound_store}
use Rattle.calls.proofs.Shown.{only_get_shows}
use Rattle.reads.specs.Get.{Gets}
use Rattle.reads.proofs.Outcomes.{said_size}
use Rattle.answers.specs.Answers.{answer_line}
use Rattle.traces.specs.Trace.{answer_text}
use Rattle.replies.specs.Replies.{Replies}

-- ---- a block of zeros
pub zeros_length : (n : ℕ) → length (zeros n) ≡ n
unfolding zeros
zeros_length n = length-replicate n 0

pub zeros_front : (n size : ℕ) → size ≤ n → take size (zeros n) ≡ zeros size
unfolding zeros
zeros_front n zero h = refl
zeros_front zero (suc size) h = absurd (omega arith)
zeros_front (suc n) (suc size) h = ap (λ (l : List ℕ). 0 ∷ l) (zeros_front n size (omega arith))

-- ---- an answer with the number, the key and the bytes of a result
written : (o : Stepped) {code key : ℕ} {bytes bs after : List ℕ} → code ≡ o.code → key ≡ o.said.key → bytes ≡ o.said.bytes
    → after ≡ render_bytes o.after bs → (number r : ℕ) (out out_after : List ℕ) → r ≡ length (answer_line number code key bytes)
    → out_after ≡ onto 0 (answer_line number code key bytes) out → Replies number o out r out_after bs after
written o {code} {key} {bytes} ec ek eb l number r out out_after er eo =
    let text : answer_line number code key bytes ≡ answer_text number o = rw (ec, ek, eb) refl in
    record { size = er ∙ ap length text; said = eo ∙ ap (λ (t : List ℕ). onto 0 t out) text; leaves = l }

-- ---- get
pub of_kind : {k : ℕ} → k ≡ get_kind → (a b d : ℕ) (bytes : List ℕ) {number r : ℕ} {out out_after bs after : List ℕ}
    → Replies number (step (decode_bytes bs) (Event.get a b)) out r out_after bs after
    → Replies number (step (decode_bytes bs) (event_from k a b d bytes)) out r out_after bs after
unfolding kinds_open
of_kind g a b d bytes h = rw g h

module _ (c : Settings) (bs : List ℕ) (v : StoreOf c bs) (p b : ℕ) where
  abbrev got : Stepped
  got = step (decode_bytes bs) (Event.get p b)

  -- no more bytes than a block has
  pub said_within : length (step (decode_bytes bs) (Event.get p b)).said.bytes ≤ c.size
  unfolding decode_bytes kinds_open ◌and◌
  said_within =
      by_eq got.code 0 (λ _ z. omega (arith, said_size c bs v p b z))
      (λ n _. omega (arith, ap length (only_get_shows (decode_bytes bs) get_kind p b 0 [] n)))

  pub get_written : Below 256 bs → {code key : ℕ} {bytes : List ℕ} → Gets (decode_bytes bs) p b code key bytes → (number r : ℕ) (out out_after : List ℕ)
      → r ≡ length (answer_line number code key bytes) → out_after ≡ onto 0 (answer_line number code key bytes) out
      → Replies number (step (decode_bytes bs) (Event.get p b)) out r out_after bs bs
  get_written below g = written got g.number g.found g.same (get_still bs below (sound_store bs (stores.sound_store c bs v)) p b)

-- ---- any other kind, whose call lends no areas
module _ (c : Settings) (bs : List ℕ) (v : StoreOf c bs) (k a b d : ℕ) (bytes : List ℕ) (other : k ≡ get_kind → ⊥) where
  abbrev result : Stepped
  result = step (decode_bytes bs) (event_from k a b d bytes)

  abbrev call : Call
  call = call_with k a b d bytes [] []

  whole : outcome bs call ≡ performed bs call result
  unfolding outcome
  whole = rw (sound_store bs (stores.sound_store c bs v), other_called _ call other) refl

  no_data : [] ≡ result.said.bytes
  no_data = sym (only_get_shows (decode_bytes bs) k a b d bytes (no_first _ _ (ne_eqb k get_kind other)))

  module _ (answer : Result ℕ Refusal) (part after : List ℕ) (e : outcome_of answer part after ≡ outcome bs call) (none : length part ≡ 0) where
    abbrev Written : ℕ → ℕ → Type 0
    Written code key = (number r : ℕ) (out out_after : List ℕ) → r ≡ length (answer_line number code key [])
        → out_after ≡ onto 0 (answer_line number code key []) (part ++ out) → Replies number result out r out_after bs after

    -- whatever the answer is, by its number and its key
    pub other_written : Written (code_of answer) (key_of answer)
    other_written number r out out_after er eo =
        let o = e ∙ whole in
        written result (ap (λ (x : Outcome). x.code) o) (ap (λ (x : Outcome). x.key) o) no_data (ap (λ (x : Outcome). x.store) o) number r out out_after er
        (eo ∙ ap (λ (x : List ℕ). onto 0 (answer_line number (code_of answer) (key_of answer) []) (x ++ out)) (sym (take_all 0 part (omega (arith, none)))))

    pub yes_written : (key : ℕ) → answer ≡ Ok key → Written 0 key
    yes_written key q = subst (λ (x : Result ℕ Refusal). Written (code_of x) (key_of x)) q other_written

    pub no_written : (refusal : Refusal) → answer ≡ Err refusal → Written (number_of refusal) 0
    no_written refusal q = subst (λ (x : Result ℕ Refusal). Written (code_of x) (key_of x)) q other_written
