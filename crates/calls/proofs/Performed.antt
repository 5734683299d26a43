-- What the code of an event promises of words is the whole outcome of the call on bytes.
use mathlib.Core.Path.{◌≡◌, refl, sym, ap, ◌∙◌}
use mathlib.Core.List.{List}
use mathlib.Core.Bool.{true}
use Prim.Native.Nat.{ℕ, ◌*◌}
use lib.ListN.{length}
use Rattle.lists.specs.Runs.{Below}
use Rattle.words.specs.Words.{words, unwords}
use Rattle.words.proofs.Laws.{unwords_words}
use Rattle.std.specs.Prelude.{Result}
use Rattle.rules.specs.declared.refusal.Refusal.{Refusal}
use Rattle.rules.specs.Refusals.{code_of}
use Rattle.rules.specs.Event.{Event}
use Rattle.rules.specs.State.{State}
use Rattle.rules.specs.Call.{Call}
use Rattle.rules.specs.Step.{step}
use Rattle.layout.specs.Layout.{settings_of, store_words}
use Rattle.layout.specs.Store.{decode_bytes, render_bytes, sound_bytes}
use Rattle.layout.proofs.Bytes.{bytes_sound, bytes_size, sound_of_words}
use Rattle.lent.specs.Performs.{key_of, Performs}
use Rattle.lent.specs.Stores.{SoundStore}
use Rattle.calls.specs.Outcome.{filled, event_on, outcome, outcome_of}

-- the check at the start of a call gives what the code of events asks for
pub store_sound : (bs : List ℕ) → sound_bytes bs ≡ true → SoundStore bs
store_sound bs y = record { size = bytes_size bs y; sound = bytes_sound bs y }

pub sound_store : (bs : List ℕ) → SoundStore bs → sound_bytes bs ≡ true
sound_store bs s = sound_of_words bs s.size s.sound

-- bytes are those of their words
bytes_are : (bs ws : List ℕ) (n : ℕ) → Below 256 bs → length bs ≡ 8 * n → words bs ≡ ws → bs ≡ unwords ws
bytes_are bs ws n b h e = sym (unwords_words bs n b h) ∙ ap unwords e

module _ (call : Call) (before : List ℕ) (sd : SoundStore before) (e : Event) (q : event_on before call ≡ e) (r : Result ℕ Refusal) where
  -- an answer, with the area and the store that the step of its event leaves
  pub outcome_is : (area after : List ℕ) → code_of r ≡ (step (decode_bytes before) e).code → key_of r ≡ (step (decode_bytes before) e).said.key → area ≡ filled call (step (decode_bytes before) e)
      → after ≡ render_bytes (step (decode_bytes before) e).after before → outcome_of r area after ≡ outcome before call
  unfolding outcome
  outcome_is area after c k f l = rw (sound_store before sd, q, c, k, f, l) refl

  -- of the words of the store
  pub outcome_performed : (area after : List ℕ) → Below 256 after → length after ≡ length before → area ≡ filled call (step (decode_bytes before) e)
      → Performs e (words before) r (words after) → outcome_of r area after ≡ outcome before call
  unfolding decode_bytes render_bytes
  outcome_performed area after b h f p =
      outcome_is area after p.code p.key f (bytes_are after _ (store_words (settings_of (words before))) b (h ∙ sd.size) p.leaves)
