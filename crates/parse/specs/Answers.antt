-- What parse answers and leaves.
use Rattle.std.specs.Prelude.{Bool, false, cond, List, [], ℕ, eqb, get_or, Option, Some, None}
use Rattle.rules.specs.Event.{EventFields, kind_at}
use Rattle.text.specs.Lines.{read_fields}
use Rattle.text.specs.declared.Event.{Event}
use Rattle.parse.specs.declared.SettingsLine.{SettingsLine}
use Rattle.parse.specs.declared.for_c.EventAnswer.{EventAnswer}
use Rattle.parse.specs.declared.for_c.SettingsAnswer.{SettingsAnswer}
use Rattle.rules.specs.declared.settings.Settings.{Settings}

-- has the event data?
unfoldable pub has_data : Option EventFields → Bool
has_data None = false
has_data (Some e) = (kind_at e.kind).payload

-- data asks for a lent area of S bytes; an event without data is taken whatever area is lent
unfoldable pub with_room : ℕ → ℕ → Option EventFields → Option EventFields
with_room S room o = cond (has_data o) (cond (eqb room S) o None) o

-- the event that a line gives, where so much room is lent for data
unfoldable pub parsed : ℕ → ℕ → List ℕ → Option EventFields
parsed S room line = with_room S room (read_fields S line)

-- numbers that the kind does not have are 0
unfoldable pub answer_to : Option EventFields → Option Event
answer_to None = None
answer_to (Some e) = Some (record { kind = e.kind; a = get_or e.numbers 0 0; b = get_or e.numbers 1 0; c = get_or e.numbers 2 0 })

unfoldable pub bytes_read : Option EventFields → List ℕ
bytes_read None = []
bytes_read (Some e) = e.bytes

-- the four numbers of a settings line
unfoldable pub settings_answer : Option Settings → Option SettingsLine
settings_answer None = None
settings_answer (Some c) = Some (record { places = c.places; size = c.size; entries = c.entries; chunks = c.chunks })

-- ---- the number and the values of each answer, as the calls for C give them
-- question 3: text well formed, data of S bytes?
unfoldable pub event_answer : Option Event → EventAnswer
event_answer (Some e) = record { code = 0; kind = e.kind; a = e.a; b = e.b; c = e.c }
event_answer None = record { code = 3; kind = 0; a = 0; b = 0; c = 0 }

unfoldable pub four_answer : Option SettingsLine → SettingsAnswer
four_answer (Some l) = record { code = 0; places = l.places; size = l.size; entries = l.entries; chunks = l.chunks }
four_answer None = record { code = 3; places = 0; size = 0; entries = 0; chunks = 0 }
