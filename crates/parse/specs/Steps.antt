-- What the steps of parse find, by position in a text.
use Rattle.std.specs.Prelude.{Bool, true, false, cond, List, [], ◌∷◌, ◌≡◌, ℕ, ◌+◌, ◌-◌, ◌≤◌, leb, length, get_or, take, drop, Option, Some, None}
use Rattle.decimal.specs.Decimal.{spelled, number_of}
use Rattle.hexadecimal.specs.Hex.{unhex, spells_bytes}
use Rattle.text.specs.Kinds.{kind_of_word, kind_of_packed}
use Rattle.text.specs.Fields.{fields}
use Rattle.rules.specs.Event.{EventFields}
use Rattle.text.specs.Lines.{taken, take_numbers, fields_of_texts}
use Rattle.parse.specs.Answers.{has_data, answer_to, bytes_read}
use Rattle.text.specs.declared.Event.{Event}
use Rattle.parse.specs.declared.Word.{Word}
use Rattle.parse.specs.declared.Field.{Field}
use Rattle.parse.specs.declared.Numbers.{Numbers}
use Rattle.parse.specs.declared.Reading.{Reading}

-- the fields of a text from a position on; none past its end
unfoldable pub fields_from : List ℕ → ℕ → List (List ℕ)
fields_from s p = cond (leb p (length s)) (fields (drop p s)) []

unfoldable pub first_number : List (List ℕ) → Option ℕ
first_number [] = None
first_number (f ∷ fs) = number_of f

unfoldable pub rest : List (List ℕ) → List (List ℕ)
rest [] = []
rest (f ∷ fs) = fs

unfoldable pub first_kind : List (List ℕ) → Option ℕ
first_kind [] = None
first_kind (f ∷ fs) = kind_of_word f

-- the first field's word is packed, and the other fields start after its end
pub record Named (s : List ℕ) (w : Word) : Type 0 where
  pub kind : first_kind (fields s) ≡ kind_of_packed w.packed
  pub others : rest (fields s) ≡ fields_from s (w.end + 1)
  pub within : w.end ≤ length s

abbrev pub WordIs : List ℕ → Option Word → Type 0
WordIs s (Some w) = Named s w
WordIs s None = first_kind (fields s) ≡ None

-- the field from a place ends at another, and its bytes spell a number
pub record Closed (s : List ℕ) (at end v : ℕ) : Type 0 where
  pub from : at ≤ end
  pub to : end ≤ length s
  pub field : fields_from s at ≡ take (end - at) (drop at s) ∷ fields_from s (end + 1)
  pub value : spelled 0 (take (end - at) (drop at s)) ≡ Some v

-- the first field is a number, and the others are these
pub record Next (fs : List (List ℕ)) (v : ℕ) (gs : List (List ℕ)) : Type 0 where
  pub number : first_number fs ≡ Some v
  pub others : rest fs ≡ gs

abbrev pub FieldIs : List ℕ → ℕ → Option Field → Type 0
FieldIs s at (Some f) = Next (fields_from s at) f.value (fields_from s f.next)
FieldIs s at None = first_number (fields_from s at) ≡ None

pub record Three (n : ℕ) (fs : List (List ℕ)) (a b c : ℕ) (left : List (List ℕ)) : Type 0 where
  pub read : take_numbers n fs ≡ Some (taken (take n (a ∷ b ∷ c ∷ [])) left)
  pub first : get_or (take n (a ∷ b ∷ c ∷ [])) 0 0 ≡ a
  pub second : get_or (take n (a ∷ b ∷ c ∷ [])) 1 0 ≡ b
  pub third : get_or (take n (a ∷ b ∷ c ∷ [])) 2 0 ≡ c

abbrev pub NumbersAre : ℕ → List ℕ → ℕ → Option Numbers → Type 0
NumbersAre n s at (Some r) = Three n (fields_from s at) r.a r.b r.c (fields_from s r.next)
NumbersAre n s at None = take_numbers n (fields_from s at) ≡ None

-- an event with data or without, and the bytes of the data
pub record Found (o : Option EventFields) (p : Bool) (e : Event) (bytes : List ℕ) : Type 0 where
  pub answer : answer_to o ≡ Some e
  pub content : bytes_read o ≡ bytes
  pub payload : has_data o ≡ p

-- an event whose data is the text's end from a position on
pub record FoundAt (S : ℕ) (s : List ℕ) (e : Event) (from : ℕ) : Type 0 where
  pub found : Found (fields_of_texts S (fields s)) true e (unhex (drop from s))
  pub within : from ≤ length s
  pub hexadecimal : spells_bytes S (drop from s) ≡ true

abbrev pub EventIs : ℕ → List ℕ → Event → Option ℕ → Type 0
EventIs S s e None = Found (fields_of_texts S (fields s)) false e []
EventIs S s e (Some from) = FoundAt S s e from

abbrev pub ReadingIs : ℕ → List ℕ → Option Reading → Type 0
ReadingIs S s (Some r) = EventIs S s r.event r.digits
ReadingIs S s None = fields_of_texts S (fields s) ≡ None
