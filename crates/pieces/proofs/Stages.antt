-- A line in each stage.
use mathlib.Core.Path.{◌≡◌, refl, sym, ap, subst, ◌∙◌}
use mathlib.Core.List.{List, []}
use mathlib.Core.Bool.{true}
use Rattle.std.specs.Prelude.{Option, Some, None}
use Prim.Native.Nat.{ℕ, ◌+◌, ◌≤◌}
use native.Mathlib.Omega.{arith}
use lib.ListN.{length, take}
use Rattle.lists.specs.Runs.{Below}
use Rattle.lists.proofs.Tests.{by}
use Rattle.area.specs.Area.{onto}
use Rattle.area.proofs.Laws.{onto_nothing}
use Rattle.rules.specs.declared.settings.Settings.{Settings}
use Rattle.rules.specs.State.{State}
use Rattle.layout.specs.Store.{decode_bytes, sound_bytes}
use Rattle.text.specs.Lines.{read_settings}
use Rattle.parse.specs.Answers.{settings_answer}
use Rattle.parse.specs.declared.SettingsLine.{SettingsLine}
use Rattle.answers.specs.Answers.{answer_line}
use Rattle.store.specs.Calls.{settings}
use Rattle.calls.proofs.Held.{Holds, holds_own, holds_step}
use Rattle.traces.specs.Trace.{most_bytes, can_trace, refused, event_in, outcome}
use Rattle.traces.specs.Machine.{opening, running, stopped, settings_said, settings_next, line_said, line_next}
use Rattle.replies.specs.Replies.{Replies}
use Rattle.pieces.specs.declared.Stage.{Stage}
use Rattle.pieces.specs.declared.Stage.TheVariants.{Opening, Running, Stopped}
use Rattle.pieces.specs.declared.Said.{Said}
use Rattle.pieces.specs.Stages.{phase_of, line_number, Opens, OpensLine, TakesLine}

-- ---- the settings of a line
module _ (o : Option Settings) (r : Option SettingsLine) (e : r ≡ settings_answer o) (stage : Stage) (room : List ℕ) where
  pub opened_some : (l : SettingsLine) → r ≡ Some l → Opens (settings l.places l.size l.entries l.chunks) stage room → OpensLine o stage room
  unfolding settings_answer
  opened_some l q = go o e
    where
      go : (o : Option Settings) → r ≡ settings_answer o → Opens (settings l.places l.size l.entries l.chunks) stage room → OpensLine o stage room
      go None e h = let z : ◌≡◌ {A = ℕ} 0 1 = cc in absurd (omega arith)
      go (Some c) e h =
          let same : settings l.places l.size l.entries l.chunks ≡ settings c.places c.size c.entries c.chunks = cc in
          subst (λ (x : Settings). OpensLine (Some x) stage room) same h

pub opened_none : (o : Option Settings) (r : Option SettingsLine) → r ≡ settings_answer o → r ≡ None → (room : List ℕ) → OpensLine o Stopped room
unfolding settings_answer
opened_none None r e q room = record { phase = refl; fits = tt; number = omega arith }
opened_none (Some c) r e q room = let z : ◌≡◌ {A = ℕ} 0 1 = cc in absurd (omega arith)

-- ---- the settings line
stopped_said : (o : Option Settings) → settings_next o ≡ stopped → settings_said o ≡ refused
stopped_said None e = refl
stopped_said (Some c) e =
    by (can_trace c) (λ y. let z : ◌≡◌ {A = ℕ} 0 1 = differ (rw y at e) in absurd (omega arith)) (λ n. rw n)
  where
    differ : {n : ℕ} {s : State} → running n s ≡ stopped → ◌≡◌ {A = ℕ} 0 1
    differ e = cc

others_said : (o : Option Settings) → (settings_next o ≡ stopped → ⊥) → settings_said o ≡ []
others_said None e = absurd (e refl)
others_said (Some c) e = by (can_trace c) (λ y. rw y) (λ n. absurd (e (rw n)))

not_stopped : (r : Stage) (room : List ℕ) → (r ≡ Stopped → ⊥) → phase_of r room ≡ stopped → ⊥
not_stopped Opening room n e = let z : ◌≡◌ {A = ℕ} 0 1 = cc in omega arith
not_stopped (Running k s) room n e = let z : ◌≡◌ {A = ℕ} 0 1 = cc in omega arith
not_stopped Stopped room n e = n refl

module _ (line room out : List ℕ) (r : Stage) (h : OpensLine (read_settings line) r room) where
  pub open_quiet : (r ≡ Stopped → ⊥) → TakesLine opening 0 line out (record { stage = r; written = 0 }) room out
  unfolding line_said line_next
  open_quiet n =
      let q = others_said (read_settings line) (λ e. not_stopped r room n (h.phase ∙ e)) in
      record {
        phase = h.phase;
        fits = h.fits;
        number = h.number;
        size = sym (ap length q);
        said = sym (ap (λ (t : List ℕ). onto 0 t out) q
            ∙ onto_nothing 0 out);
      }

  pub open_refused : r ≡ Stopped → (w : ℕ) (after : List ℕ) → w ≡ length (answer_line 0 1 0 []) → after ≡ onto 0 (answer_line 0 1 0 []) out
      → TakesLine opening 0 line out (record { stage = r; written = w }) room after
  unfolding line_said line_next refused
  open_refused e w after ew ea =
      let q = stopped_said (read_settings line) (sym h.phase ∙ ap (λ (x : Stage). phase_of x room) e) in
      record {
        phase = h.phase;
        fits = h.fits;
        number = h.number;
        size = ew ∙ sym (ap length q);
        said = ea ∙ ap (λ (t : List ℕ). onto 0 t out) (sym q);
      }

-- ---- the line of an event
module _ (number size : ℕ) (room line out : List ℕ) (w : ℕ) (after store_after room_after : List ℕ) (small : size ≤ most_bytes)
    (b : Below 256 (take size room)) (y : sound_bytes (take size room) ≡ true) (lent : take size room_after ≡ store_after)
    (p : Replies number (outcome (decode_bytes (take size room)) line) out w after (take size room) store_after) where
  held : Holds (take size room_after) (outcome (decode_bytes (take size room)) line).after
  held =
      let s = decode_bytes (take size room) in
      subst (λ (x : List ℕ). Holds x (outcome s line).after) (sym (lent ∙ p.leaves))
      (holds_step (holds_own (take size room) b y) (event_in s.settings.size line))

  pub answer_taken : TakesLine (running number (decode_bytes (take size room))) number line out (record { stage = Running (number + 1) size; written = w })
      room_after after
  unfolding line_said line_next
  answer_taken =
      record { phase = ap (running (number + 1)) held.state; fits = (small, held.passes); number = omega arith; size = p.size; said = p.said }

-- ---- nothing more
pub silent_taken : (n : ℕ) (line out room : List ℕ) → TakesLine stopped n line out (record { stage = Stopped; written = 0 }) room out
unfolding line_said line_next
silent_taken n line out room = record { phase = refl; fits = tt; number = omega arith; size = refl; said = sym (onto_nothing 0 out) }

-- ---- a stage by its variant
pub in_stage : (s t : Stage) (room line out : List ℕ) (r : Said) (room_after after : List ℕ) → s ≡ t
    → TakesLine (phase_of t room) (line_number t) line out r room_after after → TakesLine (phase_of s room) (line_number s) line out r room_after after
in_stage s t room line out r room_after after e h =
    subst (λ (x : Stage). TakesLine (phase_of x room) (line_number x) line out r room_after after) (sym e) h
