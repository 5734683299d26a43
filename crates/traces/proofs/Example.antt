-- The worked trace, computed from the definition.
use mathlib.Core.Path.{◌≡◌, refl}
use mathlib.Core.List.{List, [], ◌∷◌, ◌++◌}
use Prim.Native.Nat.{ℕ}
use Rattle.lists.specs.Tests.{same_numbers}
use Rattle.rules.specs.Event.{ascii, kinds, kind_at, event_of}
use Rattle.rules.proofs.Examples.{rules_open}
use Rattle.decimal.specs.Decimal.{digits, decimal, push, and_then, spelled, number_of}
use Rattle.hexadecimal.specs.Hex.{hex_digit, hex, is_digit, digit_value, only_digits, unhex, spells_bytes, hex_bytes}
use Rattle.text.specs.Kinds.{kind_from, kind_of_word}
use Rattle.text.specs.Fields.{parted, before, fields}
use Rattle.text.specs.Lines.{take_numbers, take_bytes, fields_of_kind, fields_of_texts, is_line, without_feed, read_fields, read_event, settings_at}
use Rattle.text.specs.Lines.{settings_of_fields, read_settings}
use Rattle.answers.specs.Answers.{header, data_text, answer_line}
use Rattle.lines.specs.Lines.{lines_from, lines}
use Rattle.traces.specs.Trace.{can_trace, refused, event_in, answers, with_settings, trace_lines, trace_text}

-- lines of text, each with its line feed
unfoldable pub text : List (List ℕ) → List ℕ
text [] = []
text (l ∷ ls) = l ++ (10 ∷ text ls)

-- to unfold this is to unfold how lines are read and written
unfoldable lines_open : ℕ
unfolding push and_then spelled number_of is_digit digit_value only_digits unhex spells_bytes hex_bytes ascii kinds kind_at same_numbers kind_from kind_of_word
    before fields take_numbers take_bytes fields_of_kind fields_of_texts is_line without_feed read_fields read_event settings_at settings_of_fields
    read_settings event_of digits decimal
    hex_digit hex parted data_text answer_line lines_from lines
lines_open = 0

-- THEOREM. The worked trace is what the definition says.
pub worked : trace_text
    (text
    (ascii "3,8,2,4"
    ∷ ascii "learn,0"
    ∷ ascii "get,0,5"
    ∷ ascii "put,0,0,5,a1a1a1a1a1a1a1a1"
    ∷ ascii "copy,72057594037927936"
    ∷ ascii "savelog,0"
    ∷ ascii "savelog,1"
    ∷ ascii "map,0,5"
    ∷ ascii "get,0,5"
    ∷ []))
    ≡ text
    (ascii "line,code,key,data"
    ∷ ascii "1,0,0,-"
    ∷ ascii "2,0,0,0000000000000000"
    ∷ ascii "3,0,72057594037927936,-"
    ∷ ascii "4,0,0,-"
    ∷ ascii "5,0,0,-"
    ∷ ascii "6,0,0,-"
    ∷ ascii "7,0,0,-"
    ∷ ascii "8,8,0,-"
    ∷ [])
unfolding rules_open lines_open text can_trace header refused event_in answers with_settings trace_lines trace_text
worked = refl
