-- The kinds of event, in 01's order, and their one table.
use Rattle.std.specs.Prelude.{List, [], ◌∷◌, Bool, true, false, cond, ℕ, zero, suc, get_or, take}
use Prim.Native.Char.{code}
use Prim.Native.String.{String, [] as empty, ◌∷◌ as ◌before◌}

pub data Event : Type 0 where
  -- proxy, place, block, data
  put : ℕ → ℕ → ℕ → List ℕ → Event
  -- key
  copy : ℕ → Event
  -- place
  savelog : ℕ → Event
  -- proxy, block
  map : ℕ → ℕ → Event
  -- block
  send : ℕ → Event
  -- index in the bag
  deliver : ℕ → Event
  drop : ℕ → Event
  -- place
  savemap : ℕ → Event
  -- proxy, block
  done : ℕ → ℕ → Event
  get : ℕ → ℕ → Event
  abandon : ℕ → ℕ → Event
  -- proxy
  learn : ℕ → Event
  reset : ℕ → Event
  -- place
  crash : ℕ → Event
  lose : ℕ → Event
  rise : ℕ → Event
  join : ℕ → Event
  view : Event
  -- bucket
  fetch : ℕ → Event
  ready : ℕ → Event
  -- place
  mend : ℕ → Event
  collect : ℕ → Event
  -- what question 3 refuses by itself: an unknown kind, no S zeros as the zero block or no S bytes for the answer, a line that is no event
  unknown : Event

-- ---- the table: the word, how many numbers follow it, whether data follows those, and the event that they make
pub record Kind : Type 0 where
  pub word : List ℕ
  pub numbers : ℕ
  pub payload : Bool
  pub make : ℕ → ℕ → ℕ → List ℕ → Event

-- the bytes of a text of ASCII characters
unfoldable pub ascii : String → List ℕ
ascii empty = []
ascii (c before s) = code c ∷ ascii s

abbrev zero_numbers : String → Event → Kind
zero_numbers w e = record { word = ascii w; numbers = 0; payload = false; make = λ a b c d. e }

abbrev one_number : String → (ℕ → Event) → Kind
one_number w f = record { word = ascii w; numbers = 1; payload = false; make = λ a b c d. f a }

abbrev two_numbers : String → (ℕ → ℕ → Event) → Kind
two_numbers w f = record { word = ascii w; numbers = 2; payload = false; make = λ a b c d. f a b }

abbrev three_and_data : String → (ℕ → ℕ → ℕ → List ℕ → Event) → Kind
three_and_data w f = record { word = ascii w; numbers = 3; payload = true; make = f }

-- the kind is a number 1 to 22, in this order: as many as the table has rows (kinds-count)
abbrev pub kind_count : ℕ
kind_count = 22

unfoldable pub kinds : List Kind
kinds =
    three_and_data "put" put
    ∷ one_number "copy" copy
    ∷ one_number "savelog" savelog
    ∷ two_numbers "map" map
    ∷ one_number "send" send
    ∷ one_number "deliver" deliver
    ∷ one_number "drop" drop
    ∷ one_number "savemap" savemap
    ∷ two_numbers "done" done
    ∷ two_numbers "get" get
    ∷ two_numbers "abandon" abandon
    ∷ one_number "learn" learn
    ∷ one_number "reset" reset
    ∷ one_number "crash" crash
    ∷ one_number "lose" lose
    ∷ one_number "rise" rise
    ∷ one_number "join" join
    ∷ zero_numbers "view" view
    ∷ one_number "fetch" fetch
    ∷ one_number "ready" ready
    ∷ one_number "mend" mend
    ∷ one_number "collect" collect
    ∷ []

abbrev pub no_kind : Kind
no_kind = record { word = []; numbers = 0; payload = false; make = λ a b c d. unknown }

unfoldable pub kind_at : ℕ → Kind
kind_at zero = no_kind
kind_at (suc i) = get_or kinds i no_kind

-- ---- an event in fields: the number of its kind, its numbers in the order of the text, its data
pub record EventFields : Type 0 where
  pub kind : ℕ
  pub numbers : List ℕ
  pub bytes : List ℕ

-- fields that a kind doesn't have are not looked at
unfoldable pub event_of : EventFields → Event
event_of p = (kind_at p.kind).make (get_or p.numbers 0 0) (get_or p.numbers 1 0) (get_or p.numbers 2 0) p.bytes

-- of three numbers and data, those that the kind has; a call brings them all, and text has no more than these
unfoldable pub fields_brought : ℕ → ℕ → ℕ → ℕ → List ℕ → EventFields
fields_brought k a b c bytes = record { kind = k; numbers = take (kind_at k).numbers (a ∷ b ∷ c ∷ []); bytes = cond (kind_at k).payload bytes [] }

abbrev pub event_from : ℕ → ℕ → ℕ → ℕ → List ℕ → Event
event_from k a b c bytes = event_of (fields_brought k a b c bytes)

abbrev numbers_only : ℕ → List ℕ → EventFields
numbers_only k ns = record { kind = k; numbers = ns; bytes = [] }

unfoldable pub event_fields : Event → EventFields
event_fields (put p i b d) = record { kind = 1; numbers = p ∷ i ∷ b ∷ []; bytes = d }
event_fields (copy k) = numbers_only 2 (k ∷ [])
event_fields (savelog i) = numbers_only 3 (i ∷ [])
event_fields (map p b) = numbers_only 4 (p ∷ b ∷ [])
event_fields (send b) = numbers_only 5 (b ∷ [])
event_fields (deliver n) = numbers_only 6 (n ∷ [])
event_fields (drop n) = numbers_only 7 (n ∷ [])
event_fields (savemap i) = numbers_only 8 (i ∷ [])
event_fields (done p b) = numbers_only 9 (p ∷ b ∷ [])
event_fields (get p b) = numbers_only 10 (p ∷ b ∷ [])
event_fields (abandon p b) = numbers_only 11 (p ∷ b ∷ [])
event_fields (learn p) = numbers_only 12 (p ∷ [])
event_fields (reset p) = numbers_only 13 (p ∷ [])
event_fields (crash i) = numbers_only 14 (i ∷ [])
event_fields (lose i) = numbers_only 15 (i ∷ [])
event_fields (rise i) = numbers_only 16 (i ∷ [])
event_fields (join i) = numbers_only 17 (i ∷ [])
event_fields view = numbers_only 18 []
event_fields (fetch g) = numbers_only 19 (g ∷ [])
event_fields (ready g) = numbers_only 20 (g ∷ [])
event_fields (mend i) = numbers_only 21 (i ∷ [])
event_fields (collect i) = numbers_only 22 (i ∷ [])
event_fields unknown = numbers_only 0 []
