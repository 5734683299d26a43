-- The line of an event, and one of none, on a sound store.
use mathlib.Core.Path.{◌≡◌, sym, ap, subst, ◌∙◌}
use mathlib.Core.List.{List, []}
use Prim.Native.Nat.{ℕ}
use lib.ListN.{length}
use Rattle.lists.specs.Runs.{Below}
use Rattle.area.specs.Area.{onto}
use Rattle.rules.specs.declared.settings.Settings.{Settings}
use Rattle.rules.specs.Event.{Event, event_from}
use Rattle.rules.specs.Question.{first_no}
use Rattle.rules.specs.Step.{rule, step}
use Rattle.layout.specs.Store.{decode_bytes}
use Rattle.layout.proofs.Bytes.{bytes_still}
use Rattle.lent.specs.Stores.{StoreOf}
use Rattle.lent.proofs.Stores as stores
use Rattle.calls.proofs.Performed.{sound_store}
use Rattle.parse.specs.Answers.{parsed, answer_to, bytes_read}
use Rattle.std.specs.Prelude.{Option, Some, None}
use Rattle.text.specs.declared.Event.{Event as Line}
use Rattle.parse.proofs.Events.{parsed_event, parsed_none}
use Rattle.answers.specs.Answers.{answer_line}
use Rattle.traces.specs.Trace.{event_or_unknown, event_in, outcome}
use Rattle.replies.specs.Replies.{Replies}

module _ (c : Settings) (bs line block after : List ℕ) (v : StoreOf c bs) (r : Option Line) (room : length block ≡ c.size)
    (answers : r ≡ answer_to (parsed c.size (length block) line)) (left : after ≡ onto 0 (bytes_read (parsed c.size (length block) line)) block)
    (number : ℕ) (area : List ℕ) (n : ℕ) (area_after bs_after : List ℕ) where
  abbrev Answered : Event → List ℕ → Type 0
  Answered e s = Replies number (step (decode_bytes bs) e) area n area_after bs s

  own_size : event_in c.size line ≡ event_in (decode_bytes bs).settings.size line
  unfolding decode_bytes
  own_size = ap (λ (x : Settings). event_in x.size line) (sym (stores.settings_are c bs v))

  pub answered_line : (l : Line) (bytes : List ℕ) → bytes ≡ after → r ≡ Some l → Answered (event_from l.kind l.a l.b l.c bytes) bs_after
      → Replies number (outcome (decode_bytes bs) line) area n area_after bs bs_after
  unfolding event_in
  answered_line l bytes e q p =
      subst (λ (x : Event). Answered x bs_after)
      (ap (event_from l.kind l.a l.b l.c) e ∙ sym (ap event_or_unknown (parsed_event c.size line block after r room answers left l q)) ∙ own_size) p

  unknown_still : Below 256 bs → n ≡ length (answer_line number 3 0 []) → area_after ≡ onto 0 (answer_line number 3 0 []) area → Answered Event.unknown bs
  unfolding step rule first_no
  unknown_still b en ea = record { size = en; said = ea; leaves = sym (bytes_still bs b (sound_store bs (stores.sound_store c bs v))) }

  pub answered_none : Below 256 bs → r ≡ None → n ≡ length (answer_line number 3 0 []) → area_after ≡ onto 0 (answer_line number 3 0 []) area
      → Replies number (outcome (decode_bytes bs) line) area n area_after bs bs
  unfolding event_in
  answered_none b q en ea =
      subst (λ (x : Event). Answered x bs)
      (sym (ap event_or_unknown (parsed_none c.size line block after r room answers left q)) ∙ own_size) (unknown_still b en ea)
