-- The whole outcome of a call: on bytes that are not sound, of a get, and of any other kind.
use mathlib.Core.Path.{◌≡◌, refl, sym, ◌∙◌}
use mathlib.Core.List.{List}
use mathlib.Core.Bool.{true, false, cond}
use Prim.Native.Nat.{ℕ}
use lib.Dec.{eqb}
use lib.ListN.{length}
use borrow.Author.Tests.{ne_eqb}
use Rattle.std.specs.Prelude.{Result, Err}
use Rattle.rules.specs.declared.refusal.Refusal.{Refusal}
use Rattle.rules.specs.declared.refusal.Refusal.TheVariants.{Unsound}
use Rattle.lists.specs.Tests.{◌and◌, ◌or◌}
use Rattle.lists.specs.Runs.{Below}
use Rattle.lists.proofs.Tests.{either}
use Rattle.words.specs.Words.{words}
use Rattle.rules.specs.Event.{Event, event_from}
use Rattle.rules.specs.Call.{Call, get_kind, is_zero_block, event_called}
use Rattle.rules.specs.Question.{first_no}
use Rattle.rules.specs.Step.{Outcome as Stepped, rule, step}
use Rattle.rules.proofs.Call.{other_called}
use Rattle.rules.proofs.Event.{kinds_open}
use Rattle.layout.specs.Store.{decode_bytes, render_bytes, sound_bytes}
use Rattle.layout.proofs.Bytes.{bytes_still}
use Rattle.lent.specs.Performs.{Performs}
use Rattle.lent.specs.Stores.{SoundStore}
use Rattle.calls.specs.Outcome.{filled, outcome, outcome_of}
use Rattle.calls.proofs.Calls.{get_still}
use Rattle.calls.proofs.Performed.{sound_store, outcome_is, outcome_performed}
use Rattle.reads.specs.Get.{read_event, GetsInto}

-- ---- bytes that are not sound: 2, and no lent byte changes
pub unsound_steps : (call : Call) (bs : List ℕ) → sound_bytes bs ≡ false → outcome_of (Err Unsound) call.area bs ≡ outcome bs call
unfolding outcome
unsound_steps call bs n = rw n refl

-- ---- the area: a refused call and one of another kind leave it, an accepted get fills it
left_other : (call : Call) (o : Stepped) → (call.kind ≡ get_kind → ⊥) → call.area ≡ filled call o
unfolding filled ◌and◌
left_other call o u = rw (ne_eqb call.kind get_kind u) refl

filled_get : (call : Call) (o : Stepped) → call.kind ≡ get_kind → cond (eqb o.code 0) o.said.bytes call.area ≡ filled call o
unfolding filled ◌and◌
filled_get call o g = rw g refl

-- ---- any kind but get
module _ (call : Call) (bs : List ℕ) (sd : SoundStore bs) (u : call.kind ≡ get_kind → ⊥) (r : Result ℕ Refusal) (after : List ℕ) (b : Below 256 after)
    (h : length after ≡ length bs) where
  pub other_steps : (e : Event) → event_from call.kind call.a call.b call.c call.bytes ≡ e → Performs e (words bs) r (words after)
      → outcome_of r call.area after ≡ outcome bs call
  other_steps e q p = outcome_performed call bs sd e (other_called _ call u ∙ q) r call.area after b h (left_other call _ u) p

-- ---- get
-- the event that its call makes
read_is : (size : ℕ) (call : Call) → call.kind ≡ get_kind → event_called size call ≡ read_event size call.zero_block call.area call.a call.b
unfolding event_called ◌or◌ kinds_open
read_is size call g = rw g refl

-- it leaves every byte of the store
unknown_still : (bs : List ℕ) → Below 256 bs → sound_bytes bs ≡ true → bs ≡ render_bytes (step (decode_bytes bs) Event.unknown).after bs
unfolding step rule first_no
unknown_still bs b y = sym (bytes_still bs b y)

read_still : (bs : List ℕ) → Below 256 bs → sound_bytes bs ≡ true → (size : ℕ) (zero_block area : List ℕ) (p block : ℕ)
    → bs ≡ render_bytes (step (decode_bytes bs) (read_event size zero_block area p block)).after bs
read_still bs b y size zero_block area p block =
    either (λ (e : Event). bs ≡ render_bytes (step (decode_bytes bs) e).after bs) (is_zero_block size zero_block and eqb (length area) size)
    (λ _. get_still bs b y p block) (λ _. unknown_still bs b y)

pub get_steps : (bs : List ℕ) (sd : SoundStore bs) → Below 256 bs → (call : Call) → call.kind ≡ get_kind → (r : Result ℕ Refusal) (area : List ℕ)
    → GetsInto (decode_bytes bs) call.zero_block call.area call.a call.b r area → outcome_of r area bs ≡ outcome bs call
get_steps bs sd b call g r area h =
    let size = (decode_bytes bs).settings.size in
    outcome_is call bs sd (read_event size call.zero_block call.area call.a call.b) (read_is size call g) r area bs h.code h.key
    (h.fills ∙ filled_get call _ g) (read_still bs b (sound_store bs sd) size call.zero_block call.area call.a call.b)
