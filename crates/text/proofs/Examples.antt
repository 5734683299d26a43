-- Worked examples of the text form, where data has 8 bytes: computed from the definitions.
use mathlib.Core.Path.{◌≡◌, refl}
use mathlib.Core.Bool.{Bool, true, false}
use mathlib.Core.List.{List, [], ◌∷◌}
use Rattle.std.specs.Prelude.{Option, Some, None}
use Prim.Native.Nat.{◌^◌, ◌-◌}
use Prim.Native.String.{String}
use Rattle.lists.specs.Tests.{◌and◌, same_numbers}
use Rattle.decimal.specs.Decimal.{digits, decimal, push, and_then, spelled, number_of}
use Rattle.hexadecimal.specs.Hex.{hex_digit, hex, is_digit, digit_value, only_digits, unhex, spells_bytes, hex_bytes}
use Rattle.rules.specs.Event.{ascii, kinds, kind_at, EventFields}
use Rattle.text.specs.Kinds.{kind_from, kind_of_word}
use Rattle.text.specs.Fields.{parted, before, fields}
use Rattle.text.specs.Lines.{make_fields, field_texts, line_of, take_numbers, take_bytes, fields_of_kind, fields_of_texts, is_line, without_feed, read_fields}
use Rattle.text.specs.Lines.{settings_at, settings_of_fields, read_settings}

reads : String → Option EventFields
reads s = read_fields 8 (ascii s)

is_none : Option EventFields → Bool
is_none None = true
is_none (Some e) = false

only_refused : List String → Bool
only_refused [] = true
only_refused (s ∷ ss) = one (is_none (reads s)) (only_refused ss)
  where
    one : Bool → Bool → Bool
    one true b = b
    one false b = false

get_read : reads "get,0,5\n" ≡ Some (make_fields 10 (0 ∷ 5 ∷ []) [])
unfolding reads push and_then spelled number_of ascii kinds kind_at same_numbers kind_from kind_of_word before fields take_numbers take_bytes
    fields_of_kind fields_of_texts is_line without_feed read_fields ◌and◌
get_read = refl

put_read : reads "put,0,0,5,a1a1a1a1a1a1a10f\n" ≡ Some (make_fields 1 (0 ∷ 0 ∷ 5 ∷ []) (161 ∷ 161 ∷ 161 ∷ 161 ∷ 161 ∷ 161 ∷ 161 ∷ 15 ∷ []))
unfolding reads push and_then spelled number_of is_digit digit_value only_digits unhex spells_bytes hex_bytes ascii kinds kind_at same_numbers kind_from
    kind_of_word before fields take_numbers take_bytes fields_of_kind fields_of_texts is_line without_feed read_fields ◌and◌
put_read = refl

largest_read : reads "copy,18446744073709551615\n" ≡ Some (make_fields 2 ((2 ^ 64 - 1) ∷ []) [])
unfolding reads push and_then spelled number_of ascii kinds kind_at same_numbers kind_from kind_of_word before fields take_numbers take_bytes
    fields_of_kind fields_of_texts is_line without_feed read_fields ◌and◌
largest_read = refl

put_written : line_of (make_fields 1 (0 ∷ 10 ∷ 5 ∷ []) (161 ∷ 15 ∷ [])) ≡ ascii "put,0,10,5,a10f\n"
unfolding digits decimal hex_digit hex ascii kinds kind_at parted field_texts line_of
put_written = refl

-- the settings line of the worked trace
settings_read : read_settings (ascii "3,8,2,4\n") ≡ Some (record { places = 3; size = 8; entries = 2; chunks = 4 })
unfolding ascii push and_then spelled number_of before fields take_numbers is_line without_feed ◌and◌ settings_at settings_of_fields read_settings
settings_read = refl

-- an empty line, no line feed, two, CR, spaces, signs, leading zeros, upper case, fields missing or too many, 2^64, data of another length
none_read : only_refused (
    "" ∷ "\n" ∷ "view" ∷ "view\n\n" ∷ "view\r\n" ∷ " view\n" ∷ "view \n" ∷ "get,0, 5\n" ∷ "get,+0,5\n" ∷ "get,-1,5\n" ∷ "get,00,5\n" ∷ "get,0,05\n"
    ∷ "GET,0,5\n" ∷ "get\n" ∷ "get,0\n" ∷ "get,0,\n" ∷ "get,,5\n" ∷ "get,0,5,\n" ∷ "get,0,5,6\n" ∷ "view,\n" ∷ "views\n" ∷ "vie\n" ∷ ",0\n"
    ∷ "copy,18446744073709551616\n" ∷ "copy,1a\n" ∷ "put,0,0,5\n" ∷ "put,0,0,5,\n" ∷ "put,0,0,5,a1a1a1a1a1a1a1\n" ∷ "put,0,0,5,A1a1a1a1a1a1a1a1\n"
    ∷ "put,0,0,5,a1a1a1a1a1a1a1a1a1\n" ∷ "put,0,0,5,a1a1a1a1a1a1a1a\n" ∷ "put,0,0,5,a1a1a1a1a1a1a1a1,\n" ∷ []) ≡ true
unfolding reads is_none only_refused push and_then spelled number_of is_digit digit_value only_digits unhex spells_bytes hex_bytes ascii kinds kind_at
    same_numbers kind_from kind_of_word before fields take_numbers take_bytes fields_of_kind fields_of_texts is_line without_feed read_fields ◌and◌
none_read = refl
