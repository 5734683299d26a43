-- An event and its line of text: the word of its kind, its numbers and its data, parted by commas, ended by a line feed.
use Rattle.std.specs.Prelude.{Bool, true, false, cond, List, [], ◌∷◌, ◌++◌, map, ℕ, zero, suc, ◌-◌, ◌^◌, leb, ltb, eqb, length, get_or, take, Option, Some, None}
use Rattle.lists.specs.Tests.{◌and◌, every}
use Rattle.rules.specs.Event.{Event, kind_count, kind_at, EventFields, event_of, event_fields}
use Rattle.rules.specs.declared.settings.Settings.{Settings}
use Rattle.decimal.specs.Decimal.{decimal, number_of, and_then}
use Rattle.hexadecimal.specs.Hex.{hex, hex_bytes}
use Rattle.text.specs.Kinds.{kind_of_word}
use Rattle.text.specs.Fields.{parted, fields}

abbrev pub make_fields : ℕ → List ℕ → List ℕ → EventFields
make_fields k ns bs = record { kind = k; numbers = ns; bytes = bs }

abbrev pub line_feed : ℕ
line_feed = 10

-- a line at most 16,500 bytes, its line feed counted
abbrev pub longest : ℕ
longest = 16500

-- ---- from an event's fields to its line
-- the fields after the word: numbers in decimal, then data in hexadecimal where the kind has it
unfoldable pub field_texts : EventFields → List (List ℕ)
field_texts e = map decimal e.numbers ++ cond (kind_at e.kind).payload (hex e.bytes ∷ []) []

unfoldable pub line_of : EventFields → List ℕ
line_of e = (kind_at e.kind).word ++ (parted (field_texts e) ++ (line_feed ∷ []))

-- ---- from a line to an event's fields
pub record Taken : Type 0 where
  pub numbers : List ℕ
  pub left : List (List ℕ)

abbrev pub taken : List ℕ → List (List ℕ) → Taken
taken ns fs = record { numbers = ns; left = fs }

-- so many numbers from the front of the fields
unfoldable pub take_numbers : ℕ → List (List ℕ) → Option Taken
take_numbers zero fs = Some (taken [] fs)
take_numbers (suc n) [] = None
take_numbers (suc n) (f ∷ fs) = and_then (number_of f) (λ v. and_then (take_numbers n fs) (λ t. Some (taken (v ∷ t.numbers) t.left)))

-- what is left is one field of data, of S bytes, or nothing
unfoldable pub take_bytes : Bool → ℕ → List (List ℕ) → Option (List ℕ)
take_bytes false S [] = Some []
take_bytes false S (f ∷ fs) = None
take_bytes true S [] = None
take_bytes true S (f ∷ []) = hex_bytes S f
take_bytes true S (f ∷ g ∷ fs) = None

unfoldable pub fields_of_kind : ℕ → ℕ → List (List ℕ) → Option EventFields
fields_of_kind S k fs =
    and_then (take_numbers (kind_at k).numbers fs)
    (λ t. and_then (take_bytes (kind_at k).payload S t.left) (λ bs. Some (make_fields k t.numbers bs)))

unfoldable pub fields_of_texts : ℕ → List (List ℕ) → Option EventFields
fields_of_texts S [] = None
fields_of_texts S (w ∷ fs) = and_then (kind_of_word w) (λ k. fields_of_kind S k fs)

-- a line ends in a line feed and has at most 16,500 bytes
unfoldable pub is_line : List ℕ → Bool
is_line l = leb (length l) longest and eqb (get_or l (length l - 1) 0) line_feed

unfoldable pub without_feed : List ℕ → List ℕ
without_feed l = take (length l - 1) l

-- the fields that a line gives, where data has S bytes; only this form is read, so a line feed inside is part of a field that is none
unfoldable pub read_fields : ℕ → List ℕ → Option EventFields
read_fields S l = cond (is_line l) (fields_of_texts S (fields (without_feed l))) None

-- ---- which fields have a line
unfoldable pub only_below : ℕ → List ℕ → Bool
only_below n l = every (λ x. ltb x n) l

-- a known kind, as many numbers as it has, below 2^64, and data of S bytes where it has data
unfoldable pub is_event : ℕ → EventFields → Bool
is_event S e =
    leb 1 e.kind and leb e.kind kind_count and eqb (length e.numbers) (kind_at e.kind).numbers and only_below (2 ^ 64) e.numbers
    and eqb (length e.bytes) (cond (kind_at e.kind).payload S 0) and only_below 256 e.bytes

-- and a line that is not too long: where S is within its limit, none is
unfoldable pub is_well_formed : ℕ → EventFields → Bool
is_well_formed S e = is_event S e and leb (length (line_of e)) longest

-- ---- of the rules' events
unfoldable pub event_line : Event → List ℕ
event_line e = line_of (event_fields e)

unfoldable pub read_event : ℕ → List ℕ → Option Event
read_event S l = and_then (read_fields S l) (λ p. Some (event_of p))

-- fields below 2^64, and data of S bytes where the kind has data
unfoldable pub has_line : ℕ → Event → Bool
has_line S e = is_well_formed S (event_fields e)

-- ---- the settings line N,S,M,L: four numbers, of which no limit is asked here
unfoldable pub settings_at : List ℕ → Settings
settings_at ns = record { places = get_or ns 0 0; size = get_or ns 1 0; entries = get_or ns 2 0; chunks = get_or ns 3 0 }

unfoldable pub settings_of_fields : List (List ℕ) → Option Settings
settings_of_fields fs = and_then (take_numbers 4 fs) (λ t. cond (eqb (length t.left) 0) (Some (settings_at t.numbers)) None)

unfoldable pub read_settings : List ℕ → Option Settings
read_settings l = cond (is_line l) (settings_of_fields (fields (without_feed l))) None
