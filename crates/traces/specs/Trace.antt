-- The trace: from the bytes that are read to the bytes that are written. The settings line (N,S,M,L) and the lines of events come in; a header goes out, and
-- an answer to each event.
use Rattle.std.specs.Prelude.{List, [], ◌∷◌, ◌++◌, Bool, cond, ℕ, ◌+◌, leb, Option, Some, None}
use Rattle.lists.specs.Tests.{◌and◌}
use Rattle.rules.specs.declared.settings.Settings.{Settings}
use Rattle.rules.specs.Limits.{in_limits}
use Rattle.rules.specs.Event.{Event}
use Rattle.rules.specs.State.{State}
use Rattle.rules.specs.Format.{format}
use Rattle.rules.specs.Step.{Outcome, step}
use Rattle.layout.specs.Store.{store_bytes}
use Rattle.text.specs.Lines.{read_event, read_settings}
use Rattle.answers.specs.Answers.{header, answer_line}
use Rattle.lines.specs.Lines.{lines}

-- the largest store that the program has room for, in bytes
abbrev pub most_bytes : ℕ
most_bytes = 49152

unfoldable pub can_trace : Settings → Bool
can_trace c = in_limits c and leb (store_bytes c) most_bytes

-- settings malformed, refused, or of a store that is too large
unfoldable pub refused : List ℕ
refused = answer_line 0 1 0 []

-- ---- an event
abbrev pub event_or_unknown : Option Event → Event
event_or_unknown None = Event.unknown
event_or_unknown (Some e) = e

-- the event of a line, where blocks have S bytes; a line that is no event is one that question 3 refuses
unfoldable pub event_in : ℕ → List ℕ → Event
event_in S line = event_or_unknown (read_event S line)

-- what the event of a line does
abbrev pub outcome : State → List ℕ → Outcome
outcome s line = step s (event_in s.settings.size line)

-- its number, the code, the key, and data or -
abbrev pub answer_text : ℕ → Outcome → List ℕ
answer_text number o = answer_line number o.code o.said.key o.said.bytes

-- ---- the trace
unfoldable pub answers : ℕ → State → List (List ℕ) → List ℕ
answers number s [] = []
answers number s (l ∷ ls) = answer_text number (outcome s l) ++ answers (number + 1) (outcome s l).after ls

unfoldable pub with_settings : Option Settings → List (List ℕ) → List ℕ
with_settings None ls = refused
with_settings (Some c) ls = cond (can_trace c) (answers 1 (format c) ls) refused

unfoldable pub trace_lines : List (List ℕ) → List ℕ
trace_lines [] = refused
trace_lines (l ∷ ls) = with_settings (read_settings l) ls

unfoldable pub trace_text : List ℕ → List ℕ
trace_text input = header ++ trace_lines (lines input)
